use Rattle.gr_model.proofs.Common.{ap, refl, sym}
use Rattle.gr_order.specs.Sequences.{Sequence}
use Rattle.gr_timeline.proofs.JudgedLemmas.{forgets_grounded, whole_order}
use Rattle.gr_timeline.proofs.judged.Judged.lanes.Goals as goal

pub returns-clause-whole : goal.returns-clause-whole
returns-clause-whole g c =
    (c.self.inside.sequencer.handled, whole_order c.args.self.now c.self.inside.sequencer _ refl c.self.view_is c.self.invariant.0 c.order.ensures.sequence)

pub returns-clause-grounded : goal.returns-clause-grounded
returns-clause-grounded g c = forgets_grounded _ c.order.result.now _ c.order.ensures.order (ap (λ (v : Sequence). v.taken) (sym c.order.ensures.order)) c.self.invariant.0 c.lanes.result.now c.lanes.ensures.taken c.lanes.ensures.forgets
