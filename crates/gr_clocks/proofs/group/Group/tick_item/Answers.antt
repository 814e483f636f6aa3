use Rattle.gr_clocks.proofs.GroupLemmas.{group_ticked, owner_has_room, ticks_clock}
use Rattle.gr_clocks.proofs.group.Group.tick_item.Goals as goal

pub tick_owner-requires : goal.tick_owner-requires
tick_owner-requires g c =
    owner_has_room c.self.invariant c.args.item (rw (← c.self.view_is) at c.requires.item) c.index_mut.ensures.value (rw (← c.self.view_is) at c.requires.room)

pub invariant_of-self : goal.invariant_of-self
invariant_of-self g c =
    group_ticked c.self.invariant c.args.item (rw (← c.self.view_is) at c.requires.item) c.index_mut.ensures.value c.tick_owner.ensures

pub returns : goal.returns
returns g c =
    rw (← c.self.view_is) (ticks_clock c.self.invariant c.args.item (rw (← c.self.view_is) at c.requires.item) c.index_mut.ensures.value c.tick_owner.ensures)
