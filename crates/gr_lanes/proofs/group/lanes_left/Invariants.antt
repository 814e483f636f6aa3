use Rattle.gr_model.proofs.Common.{ℕ, ◌<◌, ◌≤◌, get_or, length}
use Rattle.gr_lanes.specs.Kept.{HasNothing, nothing_kept}
use Rattle.gr_lanes.proofs.group.lanes_left.Given as goal

abbrev pub invariant-loop-left : goal.invariant-loop-left
invariant-loop-left g l = record { within : l.left ≤ length l.lanes; spent : (i : ℕ) → l.left ≤ i → i < length l.lanes → HasNothing (get_or l.lanes i nothing_kept) }

abbrev pub decreases-loop-left : goal.decreases-loop-left
decreases-loop-left g l = l.left
