use Rattle.gr_steps.proofs.Resting.{rest_grounded}
use Rattle.gr_sequencer.proofs.sequencer.Sequencer.unmatched.Goals as goal

pub unmatched-requires-clause-grounded : goal.unmatched-requires-clause-grounded
unmatched-requires-clause-grounded g c e =
    let rest = rw (← c.self.view_is, ← c.order-order.ensures.order) at c.requires.rest in
    let grounded = rest_grounded _ _ c.lanes.ensures.sequence.lawful rest e in
    let first = c.frontier.ensures.first e in
    rw c.lanes.ensures.taken (λ h. first.0 (grounded.1 h), λ lt. grounded.0 (first.1 lt))
