use Rattle.gr_model.proofs.Common.{ℕ, ◌<◌, ◌≤◌}
use Rattle.gr_lanes.specs.Remembered.{forgotten_of}
use Rattle.gr_order.specs.Forgetting.{HasPassed}
use Rattle.gr_order.proofs.forgetting.first_behind.Given as goal

abbrev pub invariant-loop-item : goal.invariant-loop-item
invariant-loop-item g l = (i : ℕ) → l.from ≤ i → i < l.item → HasPassed l.lanes.streams l.frontier l.group (forgotten_of l.lanes l.group) i
