use Rattle.gr_model.proofs.Common.{arith}
use Rattle.gr_lanes.proofs.GroupLemmas.{is_cut_if, is_cut_only}
use Rattle.gr_lanes.proofs.lanes.Lanes.is_cut.Goals as goal

pub returns-in-Some : goal.returns-in-Some
returns-in-Some g c = grind (arith, is_cut_if c.self.view_is c.deref.ensures.value c.from.ensures c.in-Some.ensures.lookup.0 c.in-Some.ensures.lookup.1 c.self.invariant, is_cut_only c.self.view_is c.deref.ensures.value c.from.ensures c.in-Some.ensures.lookup.0 c.in-Some.ensures.lookup.1)
