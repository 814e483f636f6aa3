use Rattle.gr_model.proofs.Common.{◌≡◌, ◌++◌, List, drop}
use Rattle.gr_clocks.specs.ClockedAccess.{ClockedAccess}
use Rattle.gr_route.specs.declared.work.Work.{Work}
use Rattle.gr_shadow.specs.Launches.{StandsForLaunch}
use Rattle.gr_threads.specs.Given.{accesses_in}
use Rattle.gr_threads.proofs.worker.shade_all.Given as goal

abbrev pub invariant-loop-place : goal.invariant-loop-place
invariant-loop-place g l =
    (done : List (Work g.row.A.Denot)) × (l.batch ≡ done ++ drop l.place l.batch) × ((accesses : List ClockedAccess) → StandsForLaunch accesses l.fn.shadows → StandsForLaunch (accesses ++ accesses_in done) l.shadows)
