-- The accesses among the work that a worker is given.
-- Source: docs/QUEUES.md, "The work queue".
use Rattle.std.specs.Prelude.{List, [], ◌∷◌}
use Rattle.gr_clocks.specs.ClockedAccess.{ClockedAccess, clocked}
use Rattle.gr_route.specs.declared.work.Work.{Work}
use Rattle.gr_route.specs.declared.work.Work.TheVariants.{Access, Stop}

abbrev pub accesses_in : {A : Type 0} → List (Work A) → List ClockedAccess
accesses_in [] = []
accesses_in (Access access ∷ works) = clocked access ∷ accesses_in works
accesses_in (Stop ∷ works) = accesses_in works
