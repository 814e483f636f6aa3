use Rattle.gr_model.proofs.Common.{◌<◌}
use Rattle.gr_model.specs.declared.event.EventId.{EventId}
use Rattle.gr_model.specs.Prelude.{StandsIn, IsGrounded, IsPrevious}
use Rattle.gr_timeline.proofs.reasons.late_in.Given as goal

abbrev pub invariant-loop-item : goal.invariant-loop-item
invariant-loop-item g l = (b d : EventId) → b.at.item < l.item → StandsIn l.judged b l.group l.number → IsPrevious d b → IsGrounded l.judged d
