use Rattle.gr_lanes.proofs.GroupLemmas.{taken_groups, taken_is}
use Rattle.gr_lanes.proofs.lanes.Lanes.take_access.Goals as goal

pub invariant_of-self : goal.invariant_of-self
invariant_of-self g c = taken_groups c.self.invariant c.self.view_is c.from.ensures c.index_mut.ensures.value c.requires.can c.requires.good c.requires.room c.take_access.ensures

pub returns : goal.returns
returns g c = record {
  taken = taken_is c.self.invariant c.self.view_is c.from.ensures c.index_mut.ensures.value c.requires.can c.requires.good c.requires.room c.take_access.ensures;
  prefixes = (invariant_of-self g c).prefixes;
}
