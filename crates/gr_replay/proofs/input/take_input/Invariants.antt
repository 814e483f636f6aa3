use Rattle.gr_model.proofs.Common.{◌<◌, ℕ, List, length, Consumes}
use Rattle.gr_intake.specs.Intakes.{IsIntake, unit_of}
use Rattle.gr_replay.proofs.Inputs.{StandsSoFar}
use Rattle.gr_replay.proofs.input.take_input.Given as goal

abbrev pub invariant-loop : goal.invariant-loop
invariant-loop g l = record {
  intake : IsIntake l.intake;
  short : length l.held.items < unit_of l.intake;
  read : (bytes : List ℕ) × Consumes (g.T.Read.remaining l.initial.reader) (g.T.Read.remaining l.reader) bytes × StandsSoFar l.intake l.held.items bytes;
}
