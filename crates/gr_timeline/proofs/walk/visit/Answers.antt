use Rattle.gr_steps.proofs.EventRecords.{group_of_event, item_of_event}
use Rattle.gr_timeline.specs.Chains.{leads_to}
use Rattle.gr_timeline.proofs.WalkLemmas.{event_within, fewer, if_some_all, linked, one_visited, visited_stays, zero_if}
use Rattle.gr_timeline.proofs.walk.visit.Goals as goal

pub place_in-requires : goal.place_in-requires
place_in-requires g c =
    linked c.args.judged.now c.args.links.now c.args.event c.requires.first (c.requires.visited.each c.args.event.at (c.covers.ensures.0 c.if-covers.true))

pub returns-then-covers-clause-reason : goal.returns-then-covers-clause-reason
returns-then-covers-clause-reason g c = (event_within c.args.links.now c.place_in.result c.args.event c.place_in.ensures, c.place_in.ensures)

pub returns-then-covers-clause-visited : goal.returns-then-covers-clause-visited
returns-then-covers-clause-visited g c = visited_stays c.args.judged.now c.args.links.now _ c.args.visited.now c.requires.visited

pub raise-requires-clause-item : goal.raise-requires-clause-item
raise-requires-clause-item g c =
    let there = c.requires.held.event in
    rw c.requires.visited.shape (group_of_event _ c.lanes-lanes.ensures.prefixes c.args.event there.0 there.1, item_of_event _ c.lanes-lanes.ensures.prefixes c.args.event there.0 there.1)

pub returns-clause-visited : goal.returns-clause-visited
returns-clause-visited g c =
    one_visited c.args.judged.now c.args.event c.requires.held c.requires.first c.args.links.now c.args.visited.now c.raise.new.self c.requires.visited c.raise.ensures c.reason_of.result

pub returns-clause-fewer : goal.returns-clause-fewer
returns-clause-fewer g c =
    if_some_all _ (leads_to c.reason_of.result) (fewer c.args.judged.now c.args.event c.requires.held c.requires.first c.args.links.now c.args.visited.now c.raise.new.self c.requires.visited c.raise.ensures c.lanes-lanes.ensures.prefixes (zero_if c.covers.result _ c.covers.ensures c.if-covers.false))
