use Rattle.gr_model.proofs.Common.{take}
use Rattle.gr_timeline.proofs.GroupLemmas.{AreGathered}
use Rattle.gr_timeline.proofs.accesses.add_group.Given as goal

abbrev pub invariant-loop-number : goal.invariant-loop-number
invariant-loop-number g l = AreGathered l.items l.word l.group l.fn.known.entries (take l.number l.list) l.counts.items l.known.entries
