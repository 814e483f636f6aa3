use Rattle.gr_model.proofs.Common.{◌≡◌, ◌≤◌, ◌*◌, sum, take}
use Rattle.gr_model.proofs.shape.total_of.Given as goal

abbrev pub invariant-loop-size : goal.invariant-loop-size
invariant-loop-size l = record { so_far : l.total ≡ sum (take l.size-index l.sizes); bound : l.total ≤ 1024 * l.size-index }
