use Rattle.gr_model.proofs.Common.{arith, [], ◌∷◌, ◌++◌, sym, subst}
use Rattle.gr_model.specs.Prelude.{IsPrefix}
use Rattle.gr_model.proofs.StreamPrefixes.{prefix_push}
use Rattle.gr_route.specs.IntakeSeats.{Seat}
use Rattle.gr_route.proofs.BatchLemmas.{events_of_sent, sent_else, sent_here}
use Rattle.gr_route.proofs.IntakeSteps.{intake}
use Rattle.gr_route.proofs.Steps.{pushes_as}
use Rattle.gr_route.proofs.intake.Intake.push.Goals as goal

pub push_as-requires-clause-rule : goal.push_as-requires-clause-rule
push_as-requires-clause-rule g c =
    let group = c.seat.inside.group in
    let event = c.args.event in
    let grows = subst (λ (s : Seat). IsPrefix s.items s.pushed → IsPrefix s.items (s.pushed ++ event ∷ [])) (sym c.seat.view_is) (λ p. prefix_push _ _ event p c.requires.good c.requires.unended c.requires.room) in
    rw (c.new-batch.ensures, c.one.ensures) (pushes_as intake _ _ _ _ _ _ c.seat.invariant.known (λ k apart. sent_else k group (event ∷ []) apart) (rw (sent_here group (event ∷ [])) grows))

pub returns-in-Err-clause-unchanged : goal.returns-in-Err-clause-unchanged
returns-in-Err-clause-unchanged g c =
    let back = events_of_sent c.into_events.result.0 c.into_events.result.1 in
    grind (arith, back, events_of_sent c.seat.inside.group (c.args.event ∷ []), c.into_events.ensures, c.in-Err.ensures.rule, c.new-batch.ensures, c.one.ensures, c.into_first.ensures.1)
