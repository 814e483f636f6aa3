use Rattle.gr_model.proofs.Common.{◌++◌, sym, subst}
use Rattle.gr_route.specs.WorkRule.{StopsLast}
use Rattle.gr_route.specs.WorkSeats.{Giver}
use Rattle.gr_route.proofs.Steps.{pushes_as}
use Rattle.gr_route.proofs.WorkSteps.{work, work_apart}
use Rattle.gr_route.proofs.work.WorkQueue.push_all.Goals as goal

pub push_as-requires-clause-rule : goal.push_as-requires-clause-rule
push_as-requires-clause-rule g c =
    pushes_as work _ _ _ _ _ _ c.giver.invariant.known (work_apart _) (λ _. subst (λ (s : Giver _). StopsLast (s.pushed ++ c.args.batch)) (sym c.giver.view_is) c.requires.stops)
