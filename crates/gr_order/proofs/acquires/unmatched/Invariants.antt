use Rattle.gr_order.specs.Acquires.{AreUnmatchedBefore}
use Rattle.gr_order.proofs.acquires.unmatched.Given as goal

abbrev pub invariant-loop-group : goal.invariant-loop-group
invariant-loop-group g l = AreUnmatchedBefore l.lanes.streams l.group 0 l.list.items
