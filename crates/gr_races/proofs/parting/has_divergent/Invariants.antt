use Rattle.gr_model.proofs.Common.{ℕ, ◌<◌, ◌≤◌}
use Rattle.gr_model.specs.Prelude.{IsDivergent}
use Rattle.gr_races.proofs.parting.has_divergent.Given as goal

abbrev pub invariant-loop-number : goal.invariant-loop-number
invariant-loop-number g l = (k : ℕ) → l.from ≤ k → k < l.number → ¬ IsDivergent l.lanes.streams l.group k
