use Rattle.gr_route.proofs.Steps.{turned}
use Rattle.gr_route.proofs.WorkSteps.{sizes_split, work}
use Rattle.gr_route.proofs.work.WorkQueue.split.Goals as goal

pub invariant_of-worker : goal.invariant_of-worker
invariant_of-worker g c =
    let sizes = sizes_split _ _ c.worker.invariant.known in
    turned work c.worker.inside.pass c.another-pass.new.pass c.learn_as.new.pass _ _ _ _ _ c.worker.invariant c.another-pass.ensures.queue.0 c.another-pass.ensures.rule.0 sizes c.learn_as.ensures.queue c.learn_as.ensures.rule
