use Rattle.gr_model.proofs.Common.{ℕ, ◌<◌}
use Rattle.gr_clocks.specs.Groups.{IsFullClock}
use Rattle.gr_clocks.proofs.group.Group.is_spent.Given as goal

abbrev pub invariant-loop-item : goal.invariant-loop-item
invariant-loop-item g l = (k : ℕ) → k < l.item → ¬ IsFullClock l.self k
