use Rattle.gr_model.proofs.Common.{arith}
use Rattle.gr_model.specs.Prelude.{arrivals, size_of}
use Rattle.gr_order.proofs.Diverging.{decided_found, found_turn, found_with, found_without, nobody_later, nobody_past}
use Rattle.gr_order.proofs.instances.add_group.Goals as goal
use Rattle.gr_order.proofs.instances.add_group.Goals.{in-Some+in_ok-push, in_default}

pub loop-instance-init : goal.loop-instance-init
loop-instance-init g c =
    rw (c.forgotten-instance.ensures, c.in_ok-extend_from_slice.ensures.items, c.decided.ensures) (decided_found c.args.lanes.now c.requires.decided c.args.group c.args.list.now.items c.requires.before)

pub returns-then-is_empty : goal.returns-then-is_empty
returns-then-is_empty g c =
    let s = c.args.lanes.now.streams in
    let k = c.loop-instance.instance in
    found_turn s c.args.group k c.loop-instance.list.items c.loop-instance.invariant (nobody_later s c.args.group k ((c.is_empty.ensures (size_of s c.args.group) (arrivals s c.args.group k) c.summary-came.ensures).0 c.if-is_empty.true))

pub loop-instance-preserved : goal.loop-instance-preserved
loop-instance-preserved g c =
    let s = c.args.lanes.now.streams in
    let k = c.loop-instance.instance in
    let size = size_of s c.args.group in
    let arrived = arrivals s c.args.group k in
    elim c.match-cause.branch [
      | in-Some+in_ok-push w ↦ rw (w.list-is, w.in_ok-push.ensures.items) (found_with s c.args.group k c.loop-instance.list.items c.loop-instance.invariant c.requires.group w.in-Some.cause
          (rw (← c.is_complete.ensures) (w.in-Some.ensures size arrived c.summary-came.ensures)))
      | in_default w ↦ rw w.list-is (found_without s c.args.group k c.loop-instance.list.items c.loop-instance.invariant
          (rw (← c.is_complete.ensures) (w.in_default.ensures size arrived c.summary-came.ensures)))
    ]

pub returns : goal.returns
returns g c =
    let s = c.args.lanes.now.streams in
    let k = c.loop-instance.instance in
    found_turn s c.args.group k c.loop-instance.list.items c.loop-instance.invariant (nobody_past s c.args.group k (omega (arith, c.taken-instance-end.ensures)))
