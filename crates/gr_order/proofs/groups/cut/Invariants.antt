use Rattle.gr_order.proofs.Cutting.{CutBelow}
use Rattle.gr_order.proofs.groups.cut.Given as goal

abbrev pub invariant-loop-group : goal.invariant-loop-group
invariant-loop-group g l = CutBelow l.lanes.streams l.group l.groups.items
