use Rattle.gr_model.proofs.Common.{◌≡◌, arith, length, with_items_is}
use Rattle.gr_clocks.proofs.GroupLemmas.{all_have_room, all_ticked, ticks_each}
use Rattle.gr_clocks.proofs.group.Group.tick.Given as given
use Rattle.gr_clocks.proofs.group.Group.tick.Goals as goal

count : (g : given.Over) (c : goal.After-self-1 g) → length c.tick_each.new.clocks ≡ c.self.inside.clocks.len
count g c = omega (arith, (rw c.deref_mut.ensures.value at c.tick_each.ensures).size, c.self.inside.clocks.ok.0)

pub tick_each-requires : goal.tick_each-requires
tick_each-requires g c = rw c.deref_mut.ensures.value (all_have_room c.self.invariant (rw (← c.self.view_is) at c.requires))

pub invariant_of-self : goal.invariant_of-self
invariant_of-self g c =
    rw (with_items_is c.self.inside.clocks c.tick_each.new.clocks (count g c)) (all_ticked c.self.invariant (rw c.deref_mut.ensures.value at c.tick_each.ensures))

pub returns : goal.returns
returns g c =
    rw (← c.self.view_is, with_items_is c.self.inside.clocks c.tick_each.new.clocks (count g c)) (ticks_each c.self.invariant (rw c.deref_mut.ensures.value at c.tick_each.ensures))
