use Rattle.gr_model.proofs.Common.{ℕ, ◌<◌}
use Rattle.gr_steps.specs.Steps.{CanHandle}
use Rattle.gr_order.proofs.schedule.Schedule.ready_in.Given as goal

abbrev pub invariant-loop-item : goal.invariant-loop-item
invariant-loop-item g l = (i : ℕ) → i < l.item → CanHandle l.self.taken l.self.handled (record { group = l.group; item = i }) → ⊥
