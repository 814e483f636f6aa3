use Rattle.gr_model.proofs.Common.{◌≡◌, [], length, All}
use Rattle.gr_route.specs.IntakeRule.{no_sizes}
use Rattle.gr_route.specs.IntakeSeats.{Taker}
use Rattle.gr_detector.proofs.setup.inlets_of.Given as goal

abbrev pub invariant-loop : goal.invariant-loop
invariant-loop g l = (length l.inlets.items ≡ l.counter) × All (λ (t : Taker). (t.popped ≡ []) × (t.sizes ≡ no_sizes)) l.inlets.items
