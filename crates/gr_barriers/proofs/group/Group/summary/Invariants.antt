use Rattle.gr_barriers.specs.Arrived.{brought}
use Rattle.gr_barriers.specs.Summaries.{IsSummaryOf}
use Rattle.gr_barriers.proofs.group.Group.summary.Given as goal

abbrev pub invariant-loop-item : goal.invariant-loop-item
invariant-loop-item g l = IsSummaryOf l.item (brought l.self l.instance) l.summary
