use Rattle.gr_timeline.proofs.WaitLemmas.{late_arrival, late_held, none_late}
use Rattle.gr_timeline.proofs.reasons.reason_of.Goals as goal

pub unreachable-requires : goal.unreachable-requires
unreachable-requires g c =
    let whole = c.lanes-lanes.ensures.whole in
    none_late c.args.judged.now c.lanes-lanes.ensures.complete whole.0 whole.1 c.args.event c.requires.held c.requires.passed c.in-None.ensures c.in-None-late_arrival.ensures

pub returns-in-Some-late_arrival-clause-cause : goal.returns-in-Some-late_arrival-clause-cause
returns-in-Some-late_arrival-clause-cause g c =
    let whole = c.lanes-lanes.ensures.whole in
    let late = c.in-Some-late_arrival.ensures in
    late_arrival c.args.judged.now c.lanes-lanes.ensures.complete whole.0 whole.1 c.args.event c.requires.held c.requires.passed c.in-None.ensures late.0 late.1 c.in-Some-late_arrival.before late.2 late.3

pub returns-in-Some-late_arrival-clause-leads : goal.returns-in-Some-late_arrival-clause-leads
returns-in-Some-late_arrival-clause-leads g c = let late = c.in-Some-late_arrival.ensures in late_held c.args.judged.now late.0 late.1 c.in-Some-late_arrival.before late.3
