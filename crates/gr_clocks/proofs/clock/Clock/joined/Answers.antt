use Rattle.gr_clocks.proofs.OwnLemmas.{join_with_own}
use Rattle.gr_clocks.proofs.clock.Clock.joined.Goals as goal

pub returns-clause-join : goal.returns-clause-join
returns-clause-join g c = rw (← c.self.view_is) (join_with_own c.self.invariant c.deref.ensures c.in_ok-joined.ensures.join c.in_ok-raise_to.ensures.raised)
