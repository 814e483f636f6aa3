use Rattle.gr_model.proofs.Common.{◌+◌, ◌-◌, length}
use Rattle.gr_clocks.proofs.TableLemmas.{Reaches}
use Rattle.gr_clocks.proofs.table.Table.with_group.Given as goal

abbrev pub invariant-loop-groups : goal.invariant-loop-groups
invariant-loop-groups g l = Reaches l.fn.self l.group l.groups.items

abbrev pub decreases-loop-groups : goal.decreases-loop-groups
decreases-loop-groups g l = l.group + 1 - length l.groups.items
