use Rattle.gr_clocks.proofs.GroupLemmas.{group_next}
use Rattle.gr_clocks.proofs.group.Group.put.Goals as goal

pub invariant_of-self : goal.invariant_of-self
invariant_of-self g c =
    group_next c.self.invariant c.args.item c.args.clock c.index_mut-2.result.now c.args.has_learned (rw (← c.self.view_is) at c.requires.item) c.index_mut-2.ensures.value (rw (← c.self.view_is) at c.requires.owner) (rw (← c.self.view_is) at c.requires.next)
