use Rattle.gr_model.proofs.Common.{◌≡◌, map, take}
use Rattle.gr_clocks.specs.Counts.{IsJoinOfAll}
use Rattle.gr_clocks.proofs.clock.Clock.learned.Given as goal

abbrev pub invariant-loop-snapshot : goal.invariant-loop-snapshot
invariant-loop-snapshot g l = record {
  join : IsJoinOfAll l.self.counts (map (λ s. s.now.clock) (take l.snapshot-index l.snapshots)) l.clock.counts;
  owner : l.clock.owner ≡ l.self.owner;
}
