use Rattle.gr_lanes.proofs.GroupLemmas.{all_came, few_forgotten, forgotten_groups, forgotten_is}
use Rattle.gr_lanes.proofs.lanes.Lanes.forget.Goals as goal

pub invariant_of-self : goal.invariant_of-self
invariant_of-self g c = forgotten_groups c.self.invariant c.self.view_is c.from.ensures c.index_mut.ensures.value c.requires c.forget.ensures

pub returns : goal.returns
returns g c = record { forgotten = forgotten_is c.self.invariant c.self.view_is c.from.ensures c.index_mut.ensures.value c.requires c.forget.ensures }

pub forget-requires : goal.forget-requires
forget-requires g c = record { came = all_came c.self.invariant c.self.view_is c.from.ensures c.index_mut.ensures.value c.requires; few = few_forgotten c.self.invariant c.self.view_is c.from.ensures c.index_mut.ensures.value c.requires }
