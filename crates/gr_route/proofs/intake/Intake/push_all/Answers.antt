use Rattle.gr_model.proofs.Common.{arith, ◌++◌, sym, subst}
use Rattle.gr_model.specs.Prelude.{IsPrefix}
use Rattle.gr_route.specs.IntakeSeats.{Seat}
use Rattle.gr_route.proofs.BatchLemmas.{events_of_sent, sent_else, sent_here}
use Rattle.gr_route.proofs.IntakeSteps.{intake}
use Rattle.gr_route.proofs.Steps.{pushes_as}
use Rattle.gr_route.proofs.intake.Intake.push_all.Goals as goal

pub push_as-requires-clause-rule : goal.push_as-requires-clause-rule
push_as-requires-clause-rule g c =
    let group = c.seat.inside.group in
    let events = c.args.events in
    let may = subst (λ (s : Seat). IsPrefix s.items (s.pushed ++ events)) (sym c.seat.view_is) c.requires.stream in
    rw c.new-batch.ensures (pushes_as intake _ _ _ _ _ _ c.seat.invariant.known (λ k apart. sent_else k group events apart) (λ _. rw (sent_here group events) may))

pub returns-in-Err-clause-unchanged : goal.returns-in-Err-clause-unchanged
returns-in-Err-clause-unchanged g c =
    let back = events_of_sent c.into_events.result.0 c.into_events.result.1 in
    grind (arith, back, events_of_sent c.seat.inside.group c.args.events, c.into_events.ensures, c.in-Err.ensures.rule, c.new-batch.ensures)
