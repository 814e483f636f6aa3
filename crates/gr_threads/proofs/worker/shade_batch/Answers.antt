use Rattle.gr_model.proofs.Common.{◌++◌, IfSome, subst}
use Rattle.gr_shadow.specs.Launches.{StandsForLaunch}
use Rattle.gr_threads.specs.Given.{accesses_in}
use Rattle.gr_threads.proofs.worker.shade_batch.Goals as goal

pub loop-group-init : goal.loop-group-init
loop-group-init g c = λ accesses was. c.in_default.ensures accesses (subst (λ o. IfSome o (StandsForLaunch accesses)) c.in_ok-shadows.was was)

pub loop-group-preserved : goal.loop-group-preserved
loop-group-preserved g c = λ accesses was. c.close.ensures (accesses ++ accesses_in c.args.batch.now) (c.loop-group.invariant accesses was)
