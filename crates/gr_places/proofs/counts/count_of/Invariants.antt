use Rattle.std.proofs.Common.{sum_by}
use Rattle.gr_model.proofs.Common.{◌≡◌, ◌≤◌, ◌*◌, take}
use Rattle.gr_places.specs.Counts.{count_in}
use Rattle.gr_places.proofs.counts.count_of.Given as goal

abbrev pub invariant-loop-group : goal.invariant-loop-group
invariant-loop-group g l = record { so_far : l.count ≡ sum_by (count_in l.wanted) (take l.group l.traces.lists); bound : l.count ≤ 16777216 * l.group }
