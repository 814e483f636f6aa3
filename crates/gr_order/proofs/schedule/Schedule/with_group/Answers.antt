use Rattle.gr_lanes.specs.Remembered.{Remembered}
use Rattle.gr_model.proofs.Common.{ap}
use Rattle.gr_order.proofs.ForgetLemmas.{forgets_with_group}
use Rattle.gr_order.proofs.ComingLemmas.{kept_with_group}
use Rattle.gr_order.proofs.schedule.Schedule.with_group.Goals as goal

pub invariant_of-result : goal.invariant_of-result
invariant_of-result g c =
    let can = rw (← c.self.view_is) at c.requires in record {
      kept = kept_with_group c.self.invariant.kept c.args.group c.args.items can c.in_ok-lanes.lanes.streams (ap (λ (r : Remembered). r.streams) c.in_ok-lanes.ensures.comes) c.in-Ok.frontier c.in-Ok.ensures.adds c.in_ok-windows.windows c.in_ok-windows.ensures;
      forgets = forgets_with_group c.self.inside.lanes c.in_ok-lanes.lanes c.args.group c.args.items c.self.invariant.kept.state.sequence.prefixes can c.in_ok-lanes.ensures.comes c.self.inside.frontier c.in-Ok.frontier (λ i. c.in-Ok.ensures.adds.counts i) c.self.invariant.forgets;
    }
