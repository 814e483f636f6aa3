use Rattle.gr_model.proofs.Common.{◌≡◌, ℕ, ◌<◌, ◌≤◌, max, length, slice_index}
use Rattle.gr_clocks.proofs.block.learn.Given as goal

abbrev pub invariant-loop-place : goal.invariant-loop-place
invariant-loop-place l = record {
  size : length l.mine ≡ length l.initial.mine;
  greater : (p : ℕ) → p < l.place → slice_index l.mine p ≡ max (slice_index l.initial.mine p) (slice_index l.theirs p);
  same : (p : ℕ) → l.place ≤ p → slice_index l.mine p ≡ slice_index l.initial.mine p;
}
