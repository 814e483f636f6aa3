use Rattle.gr_model.proofs.Common.{arith}
use Rattle.gr_timeline.proofs.WaitLemmas.{one_item_more}
use Rattle.gr_timeline.proofs.reasons.late_in.Goals as goal

pub loop-item-preserved : goal.loop-item-preserved
loop-item-preserved g c = one_item_more c.args.judged.now c.args.group c.args.number c.loop-item.item c.loop-item.invariant c.in_default.ensures

pub returns : goal.returns
returns g c b d stands p =
    let size = rw (c.shape.ensures.sizes, c.lanes.ensures.taken) at c.items-item-end.ensures.size in
    c.loop-item.invariant b d (omega (arith, size, stands.item, c.loop-item-test.false)) stands p
