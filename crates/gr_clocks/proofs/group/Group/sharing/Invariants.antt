use Rattle.gr_model.proofs.Common.{◌≡◌}
use Rattle.gr_clocks.specs.Counts.{CountSame}
use Rattle.gr_clocks.specs.Owned.{no_clock}
use Rattle.gr_clocks.specs.Groups.{item_of}
use Rattle.gr_clocks.proofs.RowLemmas.{AreEach}
use Rattle.gr_clocks.proofs.group.Group.sharing.Given as goal

abbrev pub invariant-loop-item : goal.invariant-loop-item
invariant-loop-item g l = AreEach (λ k c. (CountSame c.counts l.shared.value) × (c.owner ≡ item_of l.group k)) no_clock l.clocks.items l.item
