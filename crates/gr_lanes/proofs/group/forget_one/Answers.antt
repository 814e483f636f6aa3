use Rattle.gr_model.proofs.Common.{arith}
use Rattle.std.proofs.lemmas.List.Edits.{map_over_more}
use Rattle.gr_lanes.specs.Kept.{forgetting_one}
use Rattle.gr_lanes.proofs.group.forget_one.Goals as goal

pub loop-lane-preserved : goal.loop-lane-preserved
loop-lane-preserved g c = cc (map_over_more (forgetting_one c.args.forgotten) c.args.lanes.now c.loop-lane.lanes c.loop-lane.lane-index c.lane-item.result (omega (arith, c.loop-lane-test.true)) c.loop-lane.invariant c.lane-item.is, c.forget.ensures, c.lane-item.is)
