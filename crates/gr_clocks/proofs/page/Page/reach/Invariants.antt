use Rattle.gr_model.proofs.Common.{◌-◌, length}
use Rattle.gr_clocks.specs.Counts.{CountSame}
use Rattle.gr_clocks.proofs.page.Page.reach.Given as goal

abbrev pub invariant-loop-self : goal.invariant-loop-self
invariant-loop-self g l = CountSame l.self l.initial.self

abbrev pub decreases-loop-self : goal.decreases-loop-self
decreases-loop-self g l = l.groups - length l.self
