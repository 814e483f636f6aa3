use Rattle.gr_lanes.proofs.GroupLemmas.{read_is, size_is}
use Rattle.gr_lanes.proofs.lanes.Lanes.none_differs.Goals as goal

pub returns-in-Some : goal.returns-in-Some
returns-in-Some g c holds = rw ((read_is c.self.view_is c.deref.ensures.value c.from.ensures c.in-Some.ensures.lookup.0 c.in-Some.ensures.lookup.1).0, size_is c.self.view_is c.deref.ensures.value c.from.ensures c.in-Some.ensures.lookup.0 c.in-Some.ensures.lookup.1 c.self.invariant) at (c.none_differs.ensures holds)
