use Rattle.gr_model.proofs.Common.{ℕ, ◌<◌}
use Rattle.gr_model.specs.Prelude.{mark_of}
use Rattle.gr_order.specs.Readiness.{StandsNext}
use Rattle.gr_order.proofs.ready.all_stand_next.Given as goal

abbrev pub invariant-loop-item : goal.invariant-loop-item
invariant-loop-item g l = (i : ℕ) → i < l.item → StandsNext l.lanes.streams l.frontier l.group l.number (mark_of l.mine) i
