use Rattle.gr_model.proofs.Common.{arith}
use Rattle.gr_order.proofs.Acquiring.{group_done, item_with, item_without}
use Rattle.gr_order.proofs.acquires.add_group.Goals as goal
use Rattle.gr_order.proofs.acquires.add_group.Goals.{in-Some+in_ok-push, in_default}

pub loop-item-preserved : goal.loop-item-preserved
loop-item-preserved g c =
    let s = c.args.lanes.now.streams in
    elim c.match-unmatched_of.branch [
      | in-Some+in_ok-push w ↦
          rw (w.list-is, w.in_ok-push.ensures.items)
          (item_with s c.args.group c.loop-item.item c.loop-item.list.items c.loop-item.invariant w.in-Some.unmatched w.in-Some.ensures.0 w.in-Some.ensures.1)
      | in_default w ↦ rw w.list-is (item_without s c.args.group c.loop-item.item c.loop-item.list.items c.loop-item.invariant w.in_default.ensures)
    ]

pub returns : goal.returns
returns g c =
    let s = c.args.lanes.now.streams in
    let size = rw c.shape.ensures.sizes at c.items-item-end.ensures.size in
    group_done s c.args.group c.loop-item.item c.loop-item.list.items c.loop-item.invariant c.shape.ensures.prefixes (omega arith)
