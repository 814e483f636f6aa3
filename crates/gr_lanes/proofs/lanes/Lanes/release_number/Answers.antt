use Rattle.gr_lanes.proofs.GroupLemmas.{read_is}
use Rattle.gr_lanes.proofs.lanes.Lanes.release_number.Goals as goal

pub returns : goal.returns
returns g c = rw ((read_is c.self.view_is c.deref.ensures.value c.from.ensures c.in_ok-group.ensures.lookup.0 c.in_ok-group.ensures.lookup.1).0) at c.release_number.ensures
