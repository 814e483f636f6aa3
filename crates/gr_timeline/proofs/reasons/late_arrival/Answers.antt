use Rattle.gr_model.proofs.Common.{refl}
use Rattle.gr_steps.proofs.EventRecords.{item_of_event}
use Rattle.gr_timeline.proofs.WaitLemmas.{late_by}
use Rattle.gr_timeline.proofs.reasons.late_arrival.Goals as goal

pub returns : goal.returns
returns g c =
    let s = c.args.judged.now in
    let place = rw (c.in_ok-number.was, c.lanes.ensures.taken) at c.barrier_number.ensures in
    late_by s c.args.event c.in_ok-number.number c.late_in.result (record { group = refl; item = item_of_event s c.lanes.ensures.prefixes c.args.event c.requires.event.0 c.requires.event.1; place = place }) c.late_in.ensures

pub late_in-requires-clause-stuck : goal.late_in-requires-clause-stuck
late_in-requires-clause-stuck g c =
    let s = c.args.judged.now in
    let place = rw (c.in_ok-number.was, c.lanes.ensures.taken) at c.barrier_number.ensures in
    (c.args.event, record { group = refl; item = item_of_event s c.lanes.ensures.prefixes c.args.event c.requires.event.0 c.requires.event.1; place = place }, c.requires.held)
