use Rattle.gr_model.proofs.Common.{◌∙◌}
use Rattle.gr_clocks.proofs.JoinLemmas.{joined_more}
use Rattle.gr_clocks.proofs.clock.Clock.learned.Goals as goal

pub loop-snapshot-preserved : goal.loop-snapshot-preserved
loop-snapshot-preserved g c = record {
  join =
      joined_more (λ s. s.now.clock) c.args.snapshots.now c.loop-snapshot.snapshot-index c.snapshot-item.result c.args.self.now.counts c.loop-snapshot.clock.counts c.join.new.self.counts c.loop-snapshot-test.true c.snapshot-item.is c.loop-snapshot.invariant.join
      (rw (← c.clock.ensures) c.in_ok-join.ensures.ok);
  owner = c.join.ensures.owner ∙ c.loop-snapshot.invariant.owner;
}
