use Rattle.gr_model.proofs.Common.{ap}
use Rattle.gr_lanes.specs.Remembered.{Remembered}
use Rattle.gr_clocks.specs.Tables.{item_of}
use Rattle.gr_order.proofs.ForgetLemmas.{forgets_taken, tick_counts}
use Rattle.gr_order.proofs.AtOnceLemmas.{count_at_once, count_can_grow, kept_at_once, next_is, steps_at_once}
use Rattle.gr_order.proofs.schedule.Schedule.take_at_once.Goals as goal

pub raise-requires-clause-room : goal.raise-requires-clause-room
raise-requires-clause-room g c =
    count_can_grow c.self.invariant.kept c.args.group c.args.event (rw (← c.self.view_is) at c.requires.goes) (rw c.take_access.ensures.taken at c.take_access.ensures.prefixes)

pub invariant_of-self : goal.invariant_of-self
invariant_of-self g c =
    let go = rw (← c.self.view_is) at c.requires.goes in
    let order = rw (next_is c.self.invariant.kept c.args.group c.args.event (count_at_once c.self.invariant.kept c.args.group c.args.event go) c.get-index.result c.get-index.ensures.count) at c.push.ensures in
    record {
      kept = kept_at_once c.self.invariant.kept c.args.group c.args.event go (rw c.take_access.ensures.taken at c.take_access.ensures.prefixes) c.raise.new.self c.raise.ensures c.push.new.self order c.take_access.new.self.streams (ap (λ (r : Remembered). r.streams) c.take_access.ensures.taken);
      forgets = forgets_taken c.self.inside.lanes c.take_access.new.self c.args.group c.args.event c.self.invariant.kept.state.sequence.prefixes go.can c.take_access.ensures.taken c.take_access.ensures.prefixes c.self.inside.frontier c.raise.new.self (tick_counts c.self.inside.frontier (item_of c.args.group c.args.event.item) c.raise.new.self c.raise.ensures) c.self.invariant.forgets;
    }

pub returns-clause-step : goal.returns-clause-step
returns-clause-step g c =
    let go = rw (← c.self.view_is) at c.requires.goes in
    let order = rw (next_is c.self.invariant.kept c.args.group c.args.event (count_at_once c.self.invariant.kept c.args.group c.args.event go) c.get-index.result c.get-index.ensures.count) at c.push.ensures in
    rw (← c.self.view_is) (steps_at_once c.self.invariant.kept c.args.group c.args.event go c.push.new.self order c.take_access.new.self.streams (ap (λ (r : Remembered). r.streams) c.take_access.ensures.taken))

pub returns-clause-sequence : goal.returns-clause-sequence
returns-clause-sequence g c = (invariant_of-self g c).kept.state.sequence
