use Rattle.gr_model.proofs.Common.{[], ◌∷◌, ◌++◌, ◌∙◌, List, ap, rules}
use Rattle.gr_model.specs.declared.event.Sent.{Sent}
use Rattle.gr_route.specs.Batches.{sent_by}
use Rattle.gr_route.proofs.IntakeSteps.{handed, intake, next}
use Rattle.gr_route.proofs.Steps.{Hands, delivers, hands, hands_left, pops_as}
use Rattle.gr_route.proofs.intake.Intake.pop.Given.{Over}
use Rattle.gr_route.proofs.intake.Intake.pop.Goals as goal

-- ---- an event that was left

left_over : (g : Over) (c : goal.In-Some g) → Hands intake c.taker.inside.pass c.taker.inside.pass c.taker.inside.sizes.items (sent_by c.taker.inside.group c.taker.inside.rest) (sent_by c.taker.inside.group c.next.new.self) (record { group = c.taker.inside.group; event = c.in-Some.event } ∷ [])
left_over g c = hands_left intake _ _ _ _ _ c.taker.invariant.0 (ap (sent_by c.taker.inside.group) c.in-Some.ensures.some)

pub invariant_of-taker : goal.invariant_of-taker
invariant_of-taker g c = ((left_over g c).is, c.taker.invariant.1)

pub returns-in-Some : goal.returns-in-Some
returns-in-Some g c =
    let h = handed _ _ _ _ _ _ _ c.taker.view_is (left_over g c) in
    record { some = h.0; next = next _ _ h.1; unchanged = tt; empty = tt; delivery = delivers intake _ _ _ (left_over g c).is }

-- ---- nothing was left

pub pop_as-requires-clause-rule : goal.pop_as-requires-clause-rule
pop_as-requires-clause-rule g c = pops_as intake _ _ _ c.taker.invariant.0.known

pub returns-in_err-batch-clause-delivery : goal.returns-in_err-batch-clause-delivery
returns-in_err-batch-clause-delivery g c = delivers intake c.pop_as.new.pass c.taker.inside.sizes.items (sent_by c.taker.inside.group c.next.new.self) (search rules)

first_of_batch : (g : Over) (c : goal.After-open g) → Hands intake c.taker.inside.pass c.pop_as.new.pass c.taker.inside.sizes.items (sent_by c.taker.inside.group c.taker.inside.rest) (sent_by c.into_events-group.result.0 c.open.new.rest) (record { group = c.into_events-group.result.0; event = c.open.result } ∷ [])
first_of_batch g c =
    let first = ap (λ (l : List Sent). l ++ c.in_ok-batch.batch) (ap (sent_by c.taker.inside.group) c.in_default.ensures.none.0) ∙ c.into_events-group.ensures ∙ ap (sent_by c.into_events-group.result.0) c.open.ensures in
    hands intake _ _ _ _ _ _ _ c.taker.invariant.0 first c.pop_as.ensures.queue c.in_ok-batch.ensures.rule

pub invariant_of-taker-2 : goal.invariant_of-taker-2
invariant_of-taker-2 g c = ((first_of_batch g c).is, c.taker.invariant.1)

pub returns : goal.returns
returns g c =
    let h = handed _ _ _ _ _ _ _ c.taker.view_is (first_of_batch g c) in
    record { some = h.0; next = next _ _ h.1; unchanged = tt; empty = tt; delivery = delivers intake _ _ _ (first_of_batch g c).is }
