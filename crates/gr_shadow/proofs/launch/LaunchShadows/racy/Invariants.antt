use Rattle.gr_model.proofs.Common.{◌↔◌, Contains, List}
use Rattle.gr_model.specs.declared.event.Word.{Word}
use Rattle.gr_shadow.specs.Clashes.{ClockedAccess}
use Rattle.gr_shadow.specs.Launches.{StandsForLaunch}
use Rattle.gr_shadow.proofs.LaunchLemmas.{IsHitBelow}
use Rattle.gr_shadow.proofs.launch.LaunchShadows.racy.Given as goal

-- the words so far are those that are hit in the memories that were gone over
abbrev pub invariant-loop-local : goal.invariant-loop-local
invariant-loop-local g l = (accesses : List ClockedAccess) → StandsForLaunch accesses l.fn.self → (w : Word) → Contains l.words.items w ↔ IsHitBelow accesses (l.local-index) w
