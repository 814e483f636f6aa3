use Rattle.gr_model.proofs.Common.{◌≡◌, map, take}
use Rattle.gr_lanes.specs.Indices.{empty}
use Rattle.gr_lanes.proofs.lanes.Lanes.new.Given as goal

abbrev pub invariant-loop-group : goal.invariant-loop-group
invariant-loop-group g l = l.groups.items ≡ map empty (take l.group l.fn.shape)
