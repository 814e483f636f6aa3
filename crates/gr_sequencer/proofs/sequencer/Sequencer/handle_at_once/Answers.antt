use Rattle.gr_model.proofs.Common.{◌∙◌, ap}
use Rattle.gr_model.specs.Prelude.{event_at}
use Rattle.gr_sequencer.proofs.AtOnceSteps.{known_behind, next_at_once}
use Rattle.gr_sequencer.proofs.sequencer.Sequencer.handle_at_once.Goals as goal

pub handle_at_once-requires : goal.handle_at_once-requires
handle_at_once-requires g c =
    let sequence = rw c.self.view_is at c.order-order.ensures.sequence in
    let follows = rw c.self.view_is at c.self.invariant in
    rw (c.order-order.ensures.order, c.self.view_is)
    (next_at_once c.args.self.now sequence c.args.group c.args.event c.requires.goes c.requires.good c.requires.room c.self.inside.known follows c.args.next c.requires.next c.requires.ready)

pub invariant_of-self : goal.invariant_of-self
invariant_of-self g c =
    let sequence = rw c.self.view_is at c.order-order.ensures.sequence in
    let follows = rw c.self.view_is at c.self.invariant in
    let is = next_at_once c.args.self.now sequence c.args.group c.args.event c.requires.goes c.requires.good c.requires.room c.self.inside.known follows c.args.next c.requires.next c.requires.ready in
    let clocks = rw (c.order-order.ensures.order, c.self.view_is) at c.handle_at_once.ensures.clocks in
    let step = rw (c.self.view_is, ← c.requires.next) at c.take_at_once.ensures.step in
    rw (step.taken, step.handles.order) (known_behind _ _ _ _ _ is c.requires.goes.access.release c.handle_at_once.new.self c.handle_at_once.ensures.snapshots clocks)

pub returns-clause-event : goal.returns-clause-event
returns-clause-event g c =
    let sequence = rw c.self.view_is at c.order-order.ensures.sequence in
    let follows = rw c.self.view_is at c.self.invariant in
    let is = next_at_once c.args.self.now sequence c.args.group c.args.event c.requires.goes c.requires.good c.requires.room c.self.inside.known follows c.args.next c.requires.next c.requires.ready in
    let step = rw (c.self.view_is, ← c.requires.next) at c.take_at_once.ensures.step in
    ap (λ s. event_at s c.args.next) step.taken ∙ is.there
