use Rattle.gr_model.proofs.Common.{◌≡◌, [], replicate}
use Rattle.gr_windows.proofs.row.windows_of.Given as goal

abbrev pub invariant-loop-item : goal.invariant-loop-item
invariant-loop-item g l = l.windows.items ≡ replicate l._item []
