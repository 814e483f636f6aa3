use Rattle.gr_model.proofs.Common.{refl}
use Rattle.gr_sequencer.proofs.GroupSteps.{group_unspent, meets_true, snapshots_behind}
use Rattle.gr_sequencer.proofs.sequencer.Sequencer.meet_next.Goals as goal

pub meet-requires-clause-free : goal.meet-requires-clause-free
meet-requires-clause-free g c =
    let follows = rw (← c.order-order.ensures.order) at c.self.invariant in
    let can = c.next_meeting-instance.ensures.meeting in
    let sequence = c.next_meeting-instance.ensures.sequence in
    group_unspent _ _ _ _ _ sequence.prefixes sequence.lawful follows.clocks can.0 can.1

pub invariant_of-self-2 : goal.invariant_of-self-2
invariant_of-self-2 g c =
    let follows = rw (← c.order-order.ensures.order) at c.self.invariant in
    let can = c.next_meeting-instance.ensures.meeting in
    let sequence = c.next_meeting-instance.ensures.sequence in
    let step = (rw (← c.order-order.ensures.order) at c.meet_instance.ensures.step) c.next_meeting-instance.result can.0 can.1 in
    let met = step.meets in
    let meets = c.in_ok-meet.ensures.meets met.mark met.meeting.convergent in
    rw step.taken (record {
      clocks = meets_true _ _ _ _ _ sequence.prefixes sequence.lawful follows.clocks met.mark met.meeting _ met.barriers met.are met.order c.meet.new.self.clocks met.mark.global met.mark.local refl refl meets;
      snapshots = snapshots_behind _ _ _ _ _ sequence.prefixes sequence.lawful follows.clocks met.mark met.meeting _ met.barriers met.are met.order c.meet.new.self.snapshots (rw c.in_ok-meet.ensures.snapshots follows.snapshots);
    })

pub returns-clause-step : goal.returns-clause-step
returns-clause-step g c =
    let can = c.next_meeting-instance.ensures.meeting in
    let step = (rw (← c.order-order.ensures.order) at c.meet_instance.ensures.step) c.next_meeting-instance.result can.0 can.1 in
    rw (c.order-order.ensures.order, c.self.view_is) at step
