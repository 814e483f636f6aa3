use Rattle.gr_model.proofs.Common.{◌++◌, ◌∙◌, List, ap, append-nil, rules, sym}
use Rattle.gr_model.specs.declared.event.Sent.{Sent}
use Rattle.gr_route.specs.Batches.{sent_by}
use Rattle.gr_route.proofs.IntakeSteps.{handed, intake}
use Rattle.gr_route.proofs.Steps.{Hands, delivers, hands, hands_left, pops_as}
use Rattle.gr_route.proofs.intake.Intake.pop_all.Given.{Over}
use Rattle.gr_route.proofs.intake.Intake.pop_all.Goals as goal

-- ---- an event that was left

left_over : (g : Over) (c : goal.After-new g) → Hands intake c.taker.inside.pass c.taker.inside.pass c.taker.inside.sizes.items (sent_by c.taker.inside.group c.taker.inside.rest) (sent_by c.taker.inside.group c.next.new.self) c.new.result
left_over g c =
    let group = c.taker.inside.group in
    let first = ap (sent_by group) c.in-Some.ensures.some ∙ sym (ap (λ (l : List Sent). l ++ sent_by group c.next.new.self) (c.new.ensures ∙ ap (sent_by group) c.one.ensures)) in
    hands_left intake _ _ _ _ _ c.taker.invariant.0 first

pub invariant_of-taker : goal.invariant_of-taker
invariant_of-taker g c = ((left_over g c).is, c.taker.invariant.1)

pub returns-in-Some : goal.returns-in-Some
returns-in-Some g c = record { some = (handed _ _ _ _ _ _ _ c.taker.view_is (left_over g c)).0; unchanged = tt; empty = tt; delivery = delivers intake _ _ _ (left_over g c).is }

-- ---- nothing was left

pub pop_as-requires-clause-rule : goal.pop_as-requires-clause-rule
pop_as-requires-clause-rule g c = pops_as intake _ _ _ c.taker.invariant.0.known

pub returns-in_err-batch-clause-delivery : goal.returns-in_err-batch-clause-delivery
returns-in_err-batch-clause-delivery g c = delivers intake c.pop_as.new.pass c.taker.inside.sizes.items (sent_by c.taker.inside.group c.next.new.self) (search rules)

pub returns-clause-delivery : goal.returns-clause-delivery
returns-clause-delivery g c =
    let none = c.in_default.ensures.none in
    let group = c.taker.inside.group in
    let batch = c.in_ok-batch.batch in
    let first = ap (λ (l : List Sent). l ++ batch) (ap (sent_by group) none.0) ∙ sym (ap (λ (l : List Sent). batch ++ l) (ap (sent_by group) none.1) ∙ append-nil batch) in
    delivers intake c.pop_as.new.pass _ _ (hands intake _ _ _ _ (sent_by group c.next.new.self) batch batch c.taker.invariant.0 first c.pop_as.ensures.queue c.in_ok-batch.ensures.rule).is
