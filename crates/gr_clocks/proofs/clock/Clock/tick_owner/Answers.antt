use Rattle.gr_clocks.proofs.OwnLemmas.{own_room, own_tick}
use Rattle.gr_clocks.proofs.clock.Clock.tick_owner.Goals as goal

pub invariant_of-self : goal.invariant_of-self
invariant_of-self g c = own_room c.self.invariant (rw (← c.self.view_is) at c.requires)

pub returns : goal.returns
returns g c = rw (← c.self.view_is) (own_tick c.self.invariant)
