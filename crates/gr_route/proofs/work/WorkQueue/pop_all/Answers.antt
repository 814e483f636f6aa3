use Rattle.gr_model.proofs.Common.{arith, ◌∙◌, sym, append-nil}
use Rattle.gr_route.specs.WorkRule.{sizes_of}
use Rattle.gr_route.proofs.Steps.{Hands, hands, hands_left, pops_as}
use Rattle.gr_route.proofs.WorkSteps.{delivery, handed, kept, was_empty, work}
use Rattle.gr_route.proofs.work.WorkQueue.pop_all.Given.{Over}
use Rattle.gr_route.proofs.work.WorkQueue.pop_all.Goals as goal

-- ---- work that was left

left_over : (g : Over) (c : goal.After-one g) → Hands (work {A = g.row.A.Denot}) c.worker.inside.pass c.worker.inside.pass (sizes_of c.worker.inside.split) c.worker.inside.rest c.next.new.self c.one.result
left_over g c = hands_left work _ _ _ _ _ c.worker.invariant (grind (arith, c.in-Some.ensures.some, c.one.ensures))

pub invariant_of-worker : goal.invariant_of-worker
invariant_of-worker g c = (left_over g c).is

pub returns-in-Some : goal.returns-in-Some
returns-in-Some g c = record { some = (handed _ _ _ _ _ _ _ c.worker.view_is (left_over g c)).0; unchanged = tt; empty = tt; delivery = delivery _ _ _ (left_over g c).is }

-- ---- nothing was left

pub pop_as-requires-clause-rule : goal.pop_as-requires-clause-rule
pop_as-requires-clause-rule g c = pops_as work _ _ _ c.worker.invariant.known

pub returns-in_err-batch-clause-empty : goal.returns-in_err-batch-clause-empty
returns-in_err-batch-clause-empty g c = rw c.from_residual.ensures (was_empty _ _ _ _ c.worker.invariant c.worker.view_is c.in_default.ensures.none.0 c.in_err-batch.ensures.rule.1)

pub returns-in_err-batch-clause-delivery : goal.returns-in_err-batch-clause-delivery
returns-in_err-batch-clause-delivery g c =
    let none = c.in_default.ensures.none in
    delivery c.pop_as.new.pass c.worker.inside.split c.next.new.self (kept _ _ _ _ _ c.worker.invariant c.pop_as.ensures.queue c.in_err-batch.ensures.rule.0 (none.0 ∙ sym none.1))

pub returns-clause-delivery : goal.returns-clause-delivery
returns-clause-delivery g c =
    let none = c.in_default.ensures.none in
    let batch = c.in_ok-batch.batch in
    delivery c.pop_as.new.pass _ _ (hands work _ _ _ _ c.next.new.self batch batch c.worker.invariant (grind (arith, none, append-nil batch)) c.pop_as.ensures.queue c.in_ok-batch.ensures.rule).is
