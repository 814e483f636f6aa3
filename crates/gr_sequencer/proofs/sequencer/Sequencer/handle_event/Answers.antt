use Rattle.gr_model.proofs.Common.{◌≡◌, Some, IsTrue, arith}
use Rattle.gr_model.specs.declared.event.Event.{Event}
use Rattle.gr_model.specs.Prelude.{is_release, event_at}
use Rattle.gr_sequencer.specs.Known.{IsNext, IsSnapshotBy, snapshot_at}
use Rattle.gr_sequencer.proofs.EventSteps.{snapshots_longer}
use Rattle.gr_sequencer.proofs.sequencer.Sequencer.handle_event.Goals as goal

pub invariant_of-self-2 : goal.invariant_of-self-2
invariant_of-self-2 g c =
    let q = c.order-order.result.now in
    let e = c.args.event in
    let sequence = rw (← c.order-order.ensures.order) at c.order-order.ensures.sequence in
    let next : IsNext q.taken q.handled c.self.inside.known e = record {
      prefixes = sequence.prefixes;
      lawful = sequence.lawful;
      follows = rw (← c.order-order.ensures.order) at c.self.invariant;
      ready = rw (← c.self.view_is, ← c.order-order.ensures.order) at c.requires.ready;
    } in
    let own : (x : Event) → event_at q.taken e ≡ Some x → IsTrue (is_release x) → IsSnapshotBy q.taken e (snapshot_at c.keep.new.self.snapshots e) = λ x at releases. grind (arith, c.in_ok-keep.ensures.kept) in
    let step = rw (← c.order-order.ensures.order) at c.handle_event.ensures.step in
    rw (step.taken, step.handles.order) (record {
      clocks = c.in_ok-advance.ensures.clocks;
      snapshots = rw c.advance.ensures.snapshots (snapshots_longer _ _ _ _ next c.keep.new.self.snapshots c.keep.ensures.others own);
    })
