use Rattle.gr_model.proofs.Common.{AllAdjacentBelow}
use Rattle.gr_model.specs.Prelude.{NameBelow}
use Rattle.gr_model.proofs.names.are_ascending.Given as goal

abbrev pub invariant-loop-i : goal.invariant-loop-i
invariant-loop-i l = AllAdjacentBelow NameBelow l.names l.i
