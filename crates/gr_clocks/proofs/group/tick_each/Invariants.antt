use Rattle.gr_model.proofs.Common.{◌≡◌, ℕ, ◌<◌, ◌≤◌, get_or}
use Rattle.gr_clocks.specs.Owned.{no_clock, TicksOwner}
use Rattle.gr_clocks.proofs.group.tick_each.Given as goal

abbrev pub invariant-loop-clock : goal.invariant-loop-clock
invariant-loop-clock g l = record {
  ticked : (k : ℕ) → k < l.clock-index → TicksOwner (get_or l.initial.clocks k no_clock) (get_or l.clocks k no_clock);
  left : (k : ℕ) → l.clock-index ≤ k → get_or l.clocks k no_clock ≡ get_or l.initial.clocks k no_clock;
}
