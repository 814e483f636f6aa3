use Rattle.gr_model.proofs.Common.{ℕ, ◌<◌}
use Rattle.gr_order.specs.Sequences.{IsGroupAtRest}
use Rattle.gr_order.proofs.schedule.Schedule.ready.Given as goal

abbrev pub invariant-loop-group : goal.invariant-loop-group
invariant-loop-group g l = (n : ℕ) → n < l.group → IsGroupAtRest l.self n
