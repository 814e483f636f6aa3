use Rattle.gr_intake.proofs.Judged.{AreSomeBelow}
use Rattle.gr_intake.proofs.intake.gap_of.Given as goal

abbrev pub invariant-loop-group : goal.invariant-loop-group
invariant-loop-group g l = AreSomeBelow l.shape l.group
