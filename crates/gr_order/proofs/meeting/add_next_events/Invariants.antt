use Rattle.gr_model.proofs.Common.{◌≡◌, ◌++◌}
use Rattle.gr_order.specs.States.{next_events}
use Rattle.gr_order.proofs.meeting.add_next_events.Given as goal

abbrev pub invariant-loop-item : goal.invariant-loop-item
invariant-loop-item g l = l.handled ≡ l.initial.handled ++ next_events l.frontier l.group l.item
