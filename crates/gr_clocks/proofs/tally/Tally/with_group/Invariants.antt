use Rattle.gr_model.proofs.Common.{◌≡◌, ◌+◌, ◌-◌, List, ℕ, [], length}
use Rattle.gr_model.specs.Prelude.{put}
use Rattle.gr_clocks.proofs.tally.Tally.with_group.Given as goal

abbrev pub invariant-loop-alloc : goal.invariant-loop-alloc
invariant-loop-alloc g l = (row : List ℕ) → put [] l.rows.items l.group row ≡ put [] l.fn.self l.group row

abbrev pub decreases-loop-alloc : goal.decreases-loop-alloc
decreases-loop-alloc g l = l.group + 1 - length l.rows.items
