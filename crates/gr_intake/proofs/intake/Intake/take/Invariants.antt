use Rattle.gr_model.proofs.Common.{length}
use Rattle.gr_intake.specs.Intakes.{Moves}
use Rattle.gr_intake.proofs.intake.Intake.take.Given as goal

abbrev pub invariant-loop-rest : goal.invariant-loop-rest
invariant-loop-rest g l = Moves l.initial.self l.bytes l.self l.rest

abbrev pub decreases-loop-rest : goal.decreases-loop-rest
decreases-loop-rest g l = length l.rest
