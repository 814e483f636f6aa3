use Rattle.gr_model.proofs.Common.{◌≡◌, map, take}
use Rattle.gr_windows.proofs.WindowLemmas.{none_of}
use Rattle.gr_windows.proofs.windows.Windows.new.Given as goal

abbrev pub invariant-loop-group : goal.invariant-loop-group
invariant-loop-group g l = l.rows.items ≡ map none_of (take l.group l.shape)
