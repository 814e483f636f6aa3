use Rattle.gr_model.proofs.Common.{◌≡◌, ◌+◌, ◌-◌, ℕ, length}
use Rattle.gr_model.specs.Prelude.{put}
use Rattle.gr_model.proofs.growing.GrowingShape.with_group.Given as goal

abbrev pub invariant-loop-sizes : goal.invariant-loop-sizes
invariant-loop-sizes g l = (n : ℕ) → put 0 l.sizes.items l.group n ≡ put 0 l.fn.self l.group n

abbrev pub decreases-loop-sizes : goal.decreases-loop-sizes
decreases-loop-sizes g l = l.group + 1 - length l.sizes.items
