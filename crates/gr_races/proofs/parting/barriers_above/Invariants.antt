use Rattle.gr_model.proofs.Common.{ℕ, ◌-◌, ◌<◌, ◌≤◌}
use Rattle.gr_races.specs.Parting.{IsBehind}
use Rattle.gr_races.proofs.parting.barriers_above.Given as goal

-- each instance below `least` is before the event, and none from `most` on
abbrev pub invariant-loop-least : goal.invariant-loop-least
invariant-loop-least g l = record {
  behind : (k : ℕ) → k < l.least → IsBehind l.lanes.streams l.event k;
  beyond : (k : ℕ) → l.most ≤ k → ¬ IsBehind l.lanes.streams l.event k;
  order : l.least ≤ l.most;
}

abbrev pub decreases-loop-least : goal.decreases-loop-least
decreases-loop-least g l = l.most - l.least
