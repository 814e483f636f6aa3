use Rattle.gr_lanes.proofs.KeptLemmas.{lane_is}
use Rattle.gr_lanes.proofs.group.Group.lane.Goals as goal

pub returns : goal.returns
returns g c = rw (← c.self.view_is) (lane_is c.self.invariant c.deref.ensures.value c.from.ensures c.get.result c.get.ensures.lookup.0 c.get.ensures.lookup.1)
