use Rattle.gr_model.proofs.Common.{arith, below_more}
use Rattle.gr_order.proofs.schedule.Schedule.ready_in.Goals as goal

pub loop-item-preserved : goal.loop-item-preserved
loop-item-preserved g c = below_more _ _ c.loop-item.invariant (grind (arith, c.next.ensures.next, c.is_some.ensures, c.if-is_some.false))

pub returns-in-None : goal.returns-in-None
returns-in-None g c =
    let size = rw c.shape.ensures.sizes at c.items-item-end.ensures.size in
    record { handles = λ i within. c.loop-item.invariant i (let lt = rw (← c.self.view_is) at within in omega (arith, lt, size)); meets = c.in-None.ensures.meeting }
