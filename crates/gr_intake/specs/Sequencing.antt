-- What a sequencer takes of a launch, and the shadows of the accesses that it gives.
-- Source: docs/MODEL.md, "Steps" and "Hits".
use Rattle.gr_order.specs.Sequences.{Sequence}
use Rattle.gr_shadow.specs.Launches.{LaunchKept, StandsForLaunch}
use Rattle.gr_taking.specs.Along.{IsAlong}

-- shadows of the accesses of the handled events
abbrev pub AreShadowsOf : Sequence → LaunchKept → Type 0
AreShadowsOf q kept = IsAlong (λ accesses shadows. StandsForLaunch accesses shadows) q kept
