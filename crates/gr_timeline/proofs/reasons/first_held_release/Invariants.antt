use Rattle.gr_model.proofs.Common.{AllWithin}
use Rattle.gr_timeline.specs.Waiting.{HasGroundedRelease}
use Rattle.gr_timeline.proofs.reasons.first_held_release.Given as goal

abbrev pub invariant-loop-name : goal.invariant-loop-name
invariant-loop-name g l = AllWithin (HasGroundedRelease l.judged l.event) l.names 0 l.name-index
