use Rattle.gr_lanes.proofs.GroupLemmas.{read_is}
use Rattle.gr_lanes.proofs.lanes.Lanes.barrier_number.Goals as goal

pub barrier_number-requires : goal.barrier_number-requires
barrier_number-requires g c = let is = read_is c.self.view_is c.deref.ensures.value c.from.ensures c.in_ok-group.ensures.lookup.0 c.in_ok-group.ensures.lookup.1 in rw (is.0, is.1) c.requires

pub returns : goal.returns
returns g c = rw ((read_is c.self.view_is c.deref.ensures.value c.from.ensures c.in_ok-group.ensures.lookup.0 c.in_ok-group.ensures.lookup.1).0) at c.barrier_number.ensures
