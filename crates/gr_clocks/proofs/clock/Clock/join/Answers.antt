use Rattle.gr_clocks.proofs.OwnLemmas.{own_join}
use Rattle.gr_clocks.proofs.clock.Clock.join.Goals as goal

pub returns-clause-ok : goal.returns-clause-ok
returns-clause-ok g c =
    rw (← c.self.view_is, c.in_ok-base-2.ensures.ok) (own_join c.self.invariant c.max-count.result c.deref.ensures c.in_ok-base.ensures.join (cc))
