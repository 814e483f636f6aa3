use Rattle.gr_model.proofs.Common.{Some, ap, sym, ◌∙◌, slice_get-get_or}
use Rattle.gr_lanes.specs.Remembered.{remembering}
use Rattle.gr_lanes.specs.Takes.{with_record}
use Rattle.gr_races.proofs.TakenLists.{record_taken}
use Rattle.gr_races.proofs.taken.take_list.Goals as goal

pub take-requires-clause-good : goal.take-requires-clause-good
take-requires-clause-good g c =
    let good = c.requires.accepted.good c.loop-event.event-index c.event-item.result (slice_get-get_or c.args.list.now c.loop-event.event-index c.event-item.result c.loop-event-test.true ∙ ap Some (sym c.event-item.is)) in
    (good.0.1, good.0.2)

pub loop-event-preserved : goal.loop-event-preserved
loop-event-preserved g c =
    record_taken c.args.lanes.now c.loop-event.lanes c.take.new.self c.args.group c.loop-event.event-index c.args.list.now c.event-item.result
    c.requires.there c.loop-event-test.true c.loop-event.invariant (c.in-Ok.ensures.ok.1 ∙ ap (λ x. remembering c.loop-event.lanes (with_record c.loop-event.lanes.streams c.args.group x)) c.event-item.is)
