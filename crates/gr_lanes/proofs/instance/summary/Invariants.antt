use Rattle.gr_model.specs.Prelude.{arrivals}
use Rattle.gr_barriers.specs.Summaries.{IsSummaryOf}
use Rattle.gr_lanes.proofs.instance.summary.Given as goal

abbrev pub invariant-loop-item : goal.invariant-loop-item
invariant-loop-item g l = IsSummaryOf l.item (arrivals l.lanes.streams l.group l.number) l.summary
