use Rattle.gr_model.proofs.Common.{◌∙◌}
use Rattle.gr_clocks.proofs.OwnLemmas.{own_whole}
use Rattle.gr_clocks.proofs.clock.Clock.counts.Goals as goal

pub returns-clause-same : goal.returns-clause-same
returns-clause-same g c =
    rw (← c.self.view_is) (own_whole c.self.invariant (c.in_ok-base.ensures.copy ∙ c.deref.ensures) c.in_ok-raise_to.ensures.raised)
