use Rattle.gr_model.proofs.Common.{arith}
use Rattle.gr_clocks.proofs.RowLemmas.{more_are_each}
use Rattle.gr_clocks.proofs.TableLemmas.{zero_groups, zero_table}
use Rattle.gr_clocks.proofs.table.Table.new.Goals as goal

pub loop-group-preserved : goal.loop-group-preserved
loop-group-preserved g c =
    more_are_each c.loop-group.invariant c.in_ok-push.ensures.items (rw (← c.in_ok-shared.ensures, ← c.items.ensures.size) c.in_ok-sharing.ensures.shared)

pub invariant_of-result : goal.invariant_of-result
invariant_of-result g c = zero_groups c.args.shape.now c.in_ok-zero.zero.value (omega arith) c.loop-group.invariant

pub returns-clause-zero : goal.returns-clause-zero
returns-clause-zero g c = zero_table c.args.shape.now c.in_ok-zero.zero.value (omega arith) c.loop-group.invariant (rw c.in_ok-zero.ensures.ok c.none.ensures)
