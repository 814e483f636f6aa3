use Rattle.gr_model.proofs.Common.{[], ◌∷◌, ◌++◌, ◌∙◌, ap, sym}
use Rattle.gr_route.specs.WorkRule.{sizes_of}
use Rattle.gr_route.proofs.Steps.{Hands, hands, hands_left, pops_as}
use Rattle.gr_route.proofs.WorkSteps.{delivery, handed, kept, was_empty, unstopped_before, work}
use Rattle.gr_route.proofs.work.WorkQueue.pop.Given.{Over}
use Rattle.gr_route.proofs.work.WorkQueue.pop.Goals as goal

-- ---- work that was left

left_over : (g : Over) (c : goal.In-Some g) → Hands (work {A = g.row.A.Denot}) c.worker.inside.pass c.worker.inside.pass (sizes_of c.worker.inside.split) c.worker.inside.rest c.next.new.self (c.in-Some.work ∷ [])
left_over g c = hands_left work _ _ _ _ _ c.worker.invariant c.in-Some.ensures.some

pub invariant_of-worker : goal.invariant_of-worker
invariant_of-worker g c = (left_over g c).is

pub returns-in-Some : goal.returns-in-Some
returns-in-Some g c =
    let h = handed _ _ _ _ _ _ _ c.worker.view_is (left_over g c) in
    record { some = h.0; next = unstopped_before _ _ h.1.stops; unchanged = tt; empty = tt; delivery = delivery _ _ _ (left_over g c).is }

-- ---- nothing was left

pub pop_as-requires-clause-rule : goal.pop_as-requires-clause-rule
pop_as-requires-clause-rule g c = pops_as work _ _ _ c.worker.invariant.known

pub returns-in_err-batch-clause-empty : goal.returns-in_err-batch-clause-empty
returns-in_err-batch-clause-empty g c = rw c.from_residual.ensures (was_empty _ _ _ _ c.worker.invariant c.worker.view_is c.in_default.ensures.none.0 c.in_err-batch.ensures.rule.1)

pub returns-in_err-batch-clause-delivery : goal.returns-in_err-batch-clause-delivery
returns-in_err-batch-clause-delivery g c =
    let none = c.in_default.ensures.none in
    delivery c.pop_as.new.pass c.worker.inside.split c.next.new.self (kept _ _ _ _ _ c.worker.invariant c.pop_as.ensures.queue c.in_err-batch.ensures.rule.0 (none.0 ∙ sym none.1))

first_of_batch : (g : Over) (c : goal.After-open g) → Hands (work {A = g.row.A.Denot}) c.worker.inside.pass c.pop_as.new.pass (sizes_of c.worker.inside.split) c.worker.inside.rest c.open.new.rest (c.open.result ∷ [])
first_of_batch g c =
    let first = ap (λ l. l ++ c.in_ok-batch.batch) c.in_default.ensures.none.0 ∙ c.open.ensures in
    hands work _ _ _ _ _ _ _ c.worker.invariant first c.pop_as.ensures.queue c.in_ok-batch.ensures.rule

pub invariant_of-worker-2 : goal.invariant_of-worker-2
invariant_of-worker-2 g c = (first_of_batch g c).is

pub returns : goal.returns
returns g c =
    let h = handed _ _ _ _ _ _ _ c.worker.view_is (first_of_batch g c) in
    record { some = h.0; next = unstopped_before _ _ h.1.stops; unchanged = tt; empty = tt; delivery = delivery _ _ _ (first_of_batch g c).is }
