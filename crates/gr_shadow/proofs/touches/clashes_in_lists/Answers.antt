use Rattle.gr_model.proofs.Common.{sym, ◌∙◌, arith}
use Rattle.gr_shadow.specs.Lent.{lent_clocked}
use Rattle.gr_shadow.specs.Keeps.{touch_clashes}
use Rattle.gr_shadow.proofs.KeepsLemmas.{any_at, any_nowhere}
use Rattle.gr_shadow.proofs.touches.clashes_in_lists.Goals as goal

pub returns-then-clash : goal.returns-then-clash
returns-then-clash g c =
    let told = any_at (touch_clashes (lent_clocked c.args.access.now)) c.args.lists.now c.loop-list.list-index c.list-item.result c.loop-list-test.true c.list-item.is in
    grind (arith, told, c.loop-list.invariant, c.clash.ensures, c.if-clash.true)

pub loop-list-preserved : goal.loop-list-preserved
loop-list-preserved g c =
    let told = any_at (touch_clashes (lent_clocked c.args.access.now)) c.args.lists.now c.loop-list.list-index c.list-item.result c.loop-list-test.true c.list-item.is in
    grind (arith, told, c.loop-list.invariant, c.clash.ensures, c.if-clash.false)

pub returns : goal.returns
returns g c = sym (c.loop-list.invariant ∙ any_nowhere (touch_clashes (lent_clocked c.args.access.now)) c.args.lists.now c.loop-list.list-index c.loop-list-test.false)
