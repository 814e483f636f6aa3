use Rattle.gr_model.proofs.Common.{◌≡◌, ℕ, ◌+◌, ◌-◌, length, slice_index}
use Rattle.gr_clocks.proofs.block.Block.with.Given as goal

abbrev pub invariant-loop-changed : goal.invariant-loop-changed
invariant-loop-changed g l = (p : ℕ) → slice_index l.changed.items p ≡ slice_index l.self p

abbrev pub decreases-loop-changed : goal.decreases-loop-changed
decreases-loop-changed g l = l.place + 1 - length l.changed.items
