use Rattle.gr_model.proofs.Common.{◌≡◌, ◌-◌, arith}
use Rattle.gr_order.proofs.ForgetLemmas.{forgets_met}
use Rattle.gr_order.proofs.MeetLemmas.{meets_next}
use Rattle.gr_order.proofs.PassLemmas.{after_pass, barriers_are_held, below_largest, passes}
use Rattle.gr_order.proofs.WaitLemmas.{waits_behind}
use Rattle.gr_order.proofs.schedule.Schedule.meet_instance.Goals as goal

pub forget_next-requires : goal.forget_next-requires
forget_next-requires g c =
    let can = rw (← c.self.view_is) at c.requires in
    (can.0, meets_next c.self.inside.lanes.streams c.self.inside.handled c.self.inside.frontier c.self.invariant.kept.state.first c.args.group can.0 can.1 can.2)

pub count_next_events-requires-clause-room : goal.count_next_events-requires-clause-room
count_next_events-requires-clause-room g c =
    let size = rw c.shape.ensures.sizes at c.items-size.ensures.size in
    λ k lt. below_largest c.self.invariant.kept.state c.args.group (rw (← c.self.view_is) at c.requires) k (omega (arith, size, lt))

pub overflow_sub-self : goal.overflow_sub-self
overflow_sub-self g c =
    let size = rw c.shape.ensures.sizes at c.items-size.ensures.size in
    let held = barriers_are_held c.self.invariant.kept.state c.args.group (rw (← c.self.view_is) at c.requires) in
    omega (arith, size, held, c.from.ensures)

pub invariant_of-self : goal.invariant_of-self
invariant_of-self g c =
    let stay : c.forget_next.new.lanes.streams ≡ c.self.inside.lanes.streams = grind (arith, c.forget_next.ensures) in
    let can = rw (← c.self.view_is) at c.requires in
    let size = rw c.shape.ensures.sizes at c.items-size.ensures.size in
    let held = barriers_are_held c.self.invariant.kept.state c.args.group can in record {
      kept = rw stay (record {
        state = after_pass c.self.invariant.kept.state c.args.group can c.items-size.result size c.count_next_events.new.frontier c.count_next_events.ensures c.add_next_events.new.handled c.add_next_events.ensures (c.self.inside.held - c.from.result) (omega (arith, size, held, c.from.ensures));
        waits = waits_behind c.self.invariant.kept c.args.group c.items-size.result c.count_next_events.new.frontier c.count_next_events.ensures c.pop_group.new.self c.pop_group.ensures;
      });
      forgets = forgets_met c.self.inside.lanes c.self.invariant.kept.state.sequence.prefixes c.self.inside.frontier c.count_next_events.new.frontier c.args.group c.items-size.result size c.count_next_events.ensures c.self.invariant.forgets c.forget_next.new.lanes c.forget_next.ensures;
    }

pub returns-clause-step : goal.returns-clause-step
returns-clause-step g c =
    let stay : c.forget_next.new.lanes.streams ≡ c.self.inside.lanes.streams = grind (arith, c.forget_next.ensures) in
    let size = rw c.shape.ensures.sizes at c.items-size.ensures.size in
    rw (c.close.ensures.unchanged, stay, ← c.self.view_is)
    (λ k a meeting. passes c.self.invariant.kept.state c.args.group (k, a, meeting) c.items-size.result size c.count_next_events.new.frontier c.count_next_events.ensures c.add_next_events.new.handled c.add_next_events.ensures)
