use Rattle.gr_model.proofs.Common.{arith, below_more}
use Rattle.gr_agenda.proofs.agenda.put_pending.Goals as goal

pub loop-item-preserved : goal.loop-item-preserved
loop-item-preserved g c = (
  below_more _ _ (λ k lt pending. c.put_if_pending.ensures.keeps _ (c.loop-item.invariant.0 k lt pending)) c.put_if_pending.ensures.there,
  λ r has. c.put_if_pending.ensures.keeps r (c.loop-item.invariant.1 r has),
)

pub returns-clause-there : goal.returns-clause-there
returns-clause-there g c k lt pending = c.loop-item.invariant.0 k (omega arith) pending
