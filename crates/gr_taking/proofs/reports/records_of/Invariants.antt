use Rattle.std.proofs.Common.{sum_by}
use Rattle.gr_model.proofs.Common.{◌≡◌, ◌≤◌, ◌*◌, length, take}
use Rattle.gr_taking.proofs.reports.records_of.Given as goal

abbrev pub invariant-loop-group : goal.invariant-loop-group
invariant-loop-group g l = record { so_far : l.records ≡ sum_by length (take l.group l.sequencer.taken.lists); bound : l.records ≤ 16777216 * l.group }
