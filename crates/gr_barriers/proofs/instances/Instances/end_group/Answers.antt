use Rattle.gr_model.proofs.Common.{length, ap, arith}
use Rattle.gr_barriers.proofs.InstanceLemmas.{group_ends}
use Rattle.gr_barriers.proofs.instances.Instances.end_group.Goals as goal

pub returns-clause-ok : goal.returns-clause-ok
returns-clause-ok g c = rw (← c.self.view_is) (group_ends c.self.inside.groups.items c.args.group c.index_mut.result.now c.end.new.self (omega (arith, c.requires, ap length c.self.view_is)) c.index_mut.ensures.value c.end.ensures)
