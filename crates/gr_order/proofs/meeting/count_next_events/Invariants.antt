use Rattle.gr_order.specs.States.{TicksItems}
use Rattle.gr_order.proofs.meeting.count_next_events.Given as goal

abbrev pub invariant-loop-item : goal.invariant-loop-item
invariant-loop-item g l = TicksItems l.initial.frontier l.group l.item l.frontier
