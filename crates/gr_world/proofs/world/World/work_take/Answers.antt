use Rattle.gr_model.proofs.Common.{◌∙◌, rules, subst, sym, err_from_is_err_and}
use Rattle.gr_world.specs.Worlds.{IsWorld}
use Rattle.gr_world.proofs.InFlightLemmas.{receive_allowed, received_is_step, received_is_world, unreceived, worker_back}
use Rattle.gr_world.proofs.world.World.work_take.Goals as goal

pub invariant_of-self-2 : goal.invariant_of-self-2
invariant_of-self-2 g c = received_is_world _ c.self.invariant _ _ c.in-Some.ensures.value (search rules) _ _ c.in_ok-receive.ensures.ok (search rules)

pub returns-clause-step : goal.returns-clause-step
returns-clause-step g c =
    rw (← c.self.view_is, ← c.from.ensures) (received_is_step _ c.self.invariant _ _ c.in-Some.ensures.value (search rules) _ _ c.in_ok-receive.ensures.ok (search rules))

-- if nothing was received, nothing changes

pub invariant_of-self-then-not-branch : goal.invariant_of-self-then-not-branch
invariant_of-self-then-not-branch g c = subst IsWorld (sym (worker_back _ _ _ _ (unreceived _ _ c.in_ok-receive.ensures.ok (search rules)) c.in-Some.ensures.value)) c.self.invariant

pub returns-in_err-receive-clause-err : goal.returns-in_err-receive-clause-err
returns-in_err-receive-clause-err g c =
    let p = err_from_is_err_and c.from_residual.result c.from_residual.ensures.1 in
    rw (← c.self.view_is, ← c.from.ensures, p.1, p.2) (receive_allowed _ c.self.invariant _ _ c.in-Some.ensures.value (search rules) c.in_err-receive.ensures.err)

pub returns-in_err-receive-clause-unchanged : goal.returns-in_err-receive-clause-unchanged
returns-in_err-receive-clause-unchanged g c =
    let p = err_from_is_err_and c.from_residual.result c.from_residual.ensures.1 in
    rw (p.1) (worker_back _ _ _ _ c.in_err-receive.ensures.unchanged c.in-Some.ensures.value ∙ c.self.view_is)
