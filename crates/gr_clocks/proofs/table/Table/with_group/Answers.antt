use Rattle.gr_model.proofs.Common.{◌≤◌, length, arith}
use Rattle.gr_clocks.proofs.TableLemmas.{added_groups, adds_items, reaches_more}
use Rattle.gr_clocks.proofs.table.Table.with_group.Goals as goal

pub loop-groups-preserved : goal.loop-groups-preserved
loop-groups-preserved g c =
    let shared = c.in_ok-sharing.ensures.shared in
    let below : length c.loop-groups.groups.items ≤ c.args.group = omega (arith, c.loop-groups-test.true) in
    reaches_more c.in_ok-sharing.field-0 c.loop-groups.invariant below c.in_ok-push.ensures.items (omega (arith, shared.number, below, c.ranges.group.fits)) shared.size

pub invariant_of-result : goal.invariant_of-result
invariant_of-result g c = added_groups c.loop-groups.invariant (omega (arith, c.loop-groups-test.false)) c.in_ok-added.ensures.shared

pub returns-clause-adds : goal.returns-clause-adds
returns-clause-adds g c =
    adds_items c.loop-groups.invariant (omega (arith, c.loop-groups-test.false)) c.in_ok-added.ensures.shared (rw (c.in_ok-try_clone.ensures, c.in_ok-zero.ensures.ok) c.none.ensures)
