use Rattle.gr_model.proofs.Common.{◌++◌, List, IfSome}
use Rattle.gr_clocks.specs.ClockedAccess.{ClockedAccess}
use Rattle.gr_shadow.specs.Launches.{StandsForLaunch}
use Rattle.gr_threads.specs.Given.{accesses_in}
use Rattle.gr_threads.proofs.worker.shade_batch.Given as goal

abbrev pub invariant-loop-group : goal.invariant-loop-group
invariant-loop-group g l = (accesses : List ClockedAccess) → IfSome l.fn.shadows (StandsForLaunch accesses) → StandsForLaunch (accesses ++ accesses_in l.batch) l.shadows
