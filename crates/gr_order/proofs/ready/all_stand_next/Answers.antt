use Rattle.gr_model.proofs.Common.{arith}
use Rattle.gr_lanes.proofs.InstanceLemmas.{came_alike}
use Rattle.gr_order.proofs.ready.all_stand_next.Goals as goal

pub stands_next-requires-clause-alike : goal.stands_next-requires-clause-alike
stands_next-requires-clause-alike g c holds =
    let s = c.args.lanes.now.streams in
    let size = rw c.shape.ensures.sizes at c.items-item-end.ensures.size in
    came_alike s c.args.group c.args.number (c.none_differs-are_alike.ensures holds) c.args.mine.now c.requires.come c.loop-item.item (omega (arith, size, c.loop-item-test.true))
