use Rattle.gr_model.proofs.Common.{◌-◌, arith}
use Rattle.gr_order.proofs.ForgetLemmas.{forgets_on, tick_counts}
use Rattle.gr_order.proofs.HeldLemmas.{ready_can_count, ready_is_held}
use Rattle.gr_order.proofs.StateLemmas.{after_handle}
use Rattle.gr_order.proofs.WaitLemmas.{waits_less}
use Rattle.gr_order.proofs.schedule.Schedule.handle_next.Goals as goal

pub raise-requires-clause-room : goal.raise-requires-clause-room
raise-requires-clause-room g c = ready_can_count c.self.invariant.kept.state c.args.event (rw (← c.self.view_is) at c.requires)

pub overflow_sub-self : goal.overflow_sub-self
overflow_sub-self g c = ready_is_held c.self.invariant.kept.state c.args.event (rw (← c.self.view_is) at c.requires)

pub invariant_of-self : goal.invariant_of-self
invariant_of-self g c =
    let ready = rw (← c.self.view_is) at c.requires in
    let held = ready_is_held c.self.invariant.kept.state c.args.event ready in
    let state = after_handle c.self.invariant.kept.state c.args.event ready c.raise.new.self c.push.new.self (c.self.inside.held - 1) c.raise.ensures c.push.ensures (omega (arith, held)) in
    record {
      kept = record { state = state; waits = waits_less c.self.invariant.kept c.args.event c.raise.new.self c.raise.ensures c.pop_first.new.self c.pop_first.ensures };
      forgets = forgets_on c.self.inside.lanes c.self.inside.frontier c.raise.new.self (tick_counts c.self.inside.frontier c.args.event.at c.raise.new.self c.raise.ensures) c.self.invariant.forgets;
    }

pub returns-clause-sequence : goal.returns-clause-sequence
returns-clause-sequence g c = (invariant_of-self g c).kept.state.sequence
