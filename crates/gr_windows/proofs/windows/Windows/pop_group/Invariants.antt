use Rattle.gr_windows.specs.Windows.{DropsItems}
use Rattle.gr_windows.proofs.windows.Windows.pop_group.Given as goal

abbrev pub invariant-loop-item : goal.invariant-loop-item
invariant-loop-item g l = DropsItems l.initial.self l.group l.item l.self
