use Rattle.gr_model.proofs.Common.{false}
use Rattle.gr_route.specs.WorkRule.{sizes_of}
use Rattle.gr_route.proofs.Steps.{begins, begun}
use Rattle.gr_route.proofs.WorkSteps.{work}
use Rattle.gr_route.proofs.work.WorkQueue.new.Goals as goal

pub ruled-requires-clause-rule : goal.ruled-requires-clause-rule
ruled-requires-clause-rule g c = begins work (sizes_of false)

pub invariant_of-seat : goal.invariant_of-seat
invariant_of-seat g c = begun work _ _ _ c.in_ok-queue.ensures.1.1 c.in_ok-queue.ensures.3 c.none.ensures
