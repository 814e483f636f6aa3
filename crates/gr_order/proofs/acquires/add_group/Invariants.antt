use Rattle.gr_order.specs.Acquires.{AreUnmatchedBefore}
use Rattle.gr_order.proofs.acquires.add_group.Given as goal

abbrev pub invariant-loop-item : goal.invariant-loop-item
invariant-loop-item g l = AreUnmatchedBefore l.lanes.streams l.group l.item l.list.items
