use Rattle.gr_model.proofs.Common.{refl}
use Rattle.gr_lanes.proofs.GroupLemmas.{all_came, decided_groups, decided_is, few_forgotten}
use Rattle.gr_lanes.proofs.lanes.Lanes.decide.Goals as goal

pub invariant_of-self-2 : goal.invariant_of-self-2
invariant_of-self-2 g c = decided_groups c.self.invariant c.self.view_is c.from.ensures c.index_mut.ensures.value c.requires c.args.divergence refl c.in_ok-decide.ensures.ok

pub returns-clause-ok : goal.returns-clause-ok
returns-clause-ok g c = decided_is c.self.invariant c.self.view_is c.from.ensures c.index_mut.ensures.value c.requires c.args.divergence refl c.in_ok-decide.ensures.ok

pub decide-requires : goal.decide-requires
decide-requires g c = record { came = all_came c.self.invariant c.self.view_is c.from.ensures c.index_mut.ensures.value c.requires; few = few_forgotten c.self.invariant c.self.view_is c.from.ensures c.index_mut.ensures.value c.requires }
