use Rattle.gr_model.proofs.Common.{◌≡◌, ◌+◌, ◌-◌, length}
use Rattle.gr_model.specs.Prelude.{put}
use Rattle.gr_lanes.specs.Indices.{GroupList, empty}
use Rattle.gr_lanes.proofs.lanes.put_group.Given as goal

abbrev pub invariant-loop-alloc : goal.invariant-loop-alloc
invariant-loop-alloc g l = (x : GroupList) → put (empty 0) l.groups.items l.group x ≡ put (empty 0) l.initial.groups.items l.group x

abbrev pub decreases-loop-alloc : goal.decreases-loop-alloc
decreases-loop-alloc g l = l.group + 1 - length l.groups.items
