use Rattle.gr_timeline.proofs.GroupLemmas.{IsKnownBelow}
use Rattle.gr_timeline.proofs.accesses.accesses_of.Given as goal

abbrev pub invariant-loop-group : goal.invariant-loop-group
invariant-loop-group g l = IsKnownBelow l.traces l.word l.group l.known.entries
