use Rattle.gr_clocks.specs.Groups.{AreRaised}
use Rattle.gr_clocks.proofs.group.Group.raised.Given as goal

abbrev pub invariant-loop-item : goal.invariant-loop-item
invariant-loop-item g l = AreRaised l.self l.base l.item l.counts.items
