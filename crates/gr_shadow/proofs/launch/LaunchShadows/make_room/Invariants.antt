use Rattle.gr_model.proofs.Common.{◌+◌, ◌-◌, List, length}
use Rattle.gr_shadow.specs.Clashes.{ClockedAccess}
use Rattle.gr_shadow.specs.Launches.{StandsForLaunch}
use Rattle.gr_shadow.proofs.launch.LaunchShadows.make_room.Given as goal

abbrev pub invariant-loop-self : goal.invariant-loop-self
invariant-loop-self g l = (accesses : List ClockedAccess) → StandsForLaunch accesses l.fn.self → StandsForLaunch accesses (record { global = l.self-inside.global; local = l.self-inside.local.items })

abbrev pub decreases-loop-self : goal.decreases-loop-self
decreases-loop-self g l = (l.group + 1) - length l.self-inside.local.items
