use Rattle.gr_model.proofs.Common.{◌≡◌}
use Rattle.std.proofs.Math.ListN.{replicate}
use Rattle.gr_lanes.specs.Kept.{nothing_kept}
use Rattle.gr_lanes.proofs.group.begin.Given as goal

abbrev pub invariant-loop-item : goal.invariant-loop-item
invariant-loop-item g l = l.all.items ≡ replicate l._item nothing_kept
