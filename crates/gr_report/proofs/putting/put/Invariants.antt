use Rattle.gr_model.proofs.Common.{length}
use Rattle.gr_report.proofs.PuttingLemmas.{Prefix}
use Rattle.gr_report.proofs.putting.put.Given as goal

-- what was written so far is the prefix of the bytes before the rest
abbrev pub invariant-loop-rest : goal.invariant-loop-rest
invariant-loop-rest g l = Prefix (g.W.Write.contents l.initial.writer) (g.W.Write.contents l.writer) l.bytes l.rest

abbrev pub decreases-loop-rest : goal.decreases-loop-rest
decreases-loop-rest g l = length l.rest
