use Rattle.gr_model.proofs.Common.{◌≡◌, ◌++◌, drop, map, take}
use Rattle.gr_lanes.specs.Kept.{forgetting_one}
use Rattle.gr_lanes.proofs.group.forget_one.Given as goal

abbrev pub invariant-loop-lane : goal.invariant-loop-lane
invariant-loop-lane g l = l.lanes ≡ map (forgetting_one l.forgotten) (take l.lane-index l.initial.lanes) ++ drop l.lane-index l.initial.lanes
