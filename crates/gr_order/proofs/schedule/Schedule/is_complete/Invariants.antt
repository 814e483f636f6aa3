use Rattle.gr_model.proofs.Common.{ℕ, ◌<◌, IsTrue}
use Rattle.gr_model.specs.Prelude.{is_complete, list_of}
use Rattle.gr_order.proofs.schedule.Schedule.is_complete.Given as goal

abbrev pub invariant-loop-group : goal.invariant-loop-group
invariant-loop-group g l = (n : ℕ) → n < l.group → IsTrue (is_complete (list_of l.self.taken n))
