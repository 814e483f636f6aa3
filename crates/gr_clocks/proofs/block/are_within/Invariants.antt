use Rattle.gr_model.proofs.Common.{ℕ, ◌<◌, ◌≤◌, IsFalse, slice_index}
use Rattle.gr_clocks.proofs.block.are_within.Given as goal

abbrev pub invariant-loop-place : goal.invariant-loop-place
invariant-loop-place l = IsFalse l.is_above → (p : ℕ) → p < l.place → slice_index l.mine p ≤ slice_index l.theirs p
