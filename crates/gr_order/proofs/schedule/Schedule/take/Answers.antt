use Rattle.gr_model.proofs.Common.{◌≡◌, ◌∙◌, ◌+◌, ℕ, ap, arith, not}
use Rattle.std.specs.Int.{from_bool}
use Rattle.gr_model.specs.Prelude.{is_end}
use Rattle.gr_lanes.specs.Remembered.{Remembered}
use Rattle.gr_order.proofs.ForgetLemmas.{forgets_taken}
use Rattle.gr_order.proofs.HeldLemmas.{held_most}
use Rattle.gr_order.proofs.StateLemmas.{took}
use Rattle.gr_order.proofs.TakenLemmas.{one_at_most}
use Rattle.gr_order.proofs.WaitLemmas.{waits_again, waits_more}
use Rattle.gr_order.proofs.schedule.Schedule.take.Goals as goal

pub overflow_add-self : goal.overflow_add-self
overflow_add-self g c =
    let most = held_most c.self.invariant.kept.state in
    let more : c.from.result ≡ from_bool (not (is_end c.args.event)) = c.from.ensures ∙ ap (λ b. from_bool (not b)) c.is_end-more.ensures in
    omega (arith, most, more, one_at_most (not (is_end c.args.event)))

pub invariant_of-self-2 : goal.invariant_of-self-2
invariant_of-self-2 g c =
    let more : c.from.result ≡ from_bool (not (is_end c.args.event)) = c.from.ensures ∙ ap (λ b. from_bool (not b)) c.is_end-more.ensures in record {
      kept = record {
        state = took c.self.invariant.kept.state c.args.group c.args.event c.take_accepted.new.self.streams c.take_accepted.ensures.prefixes c.in_default.ensures.fault (ap (λ (r : Remembered). r.streams) c.in-Ok.ensures.ok) (c.self.inside.held + c.from.result) (ap (λ (n : ℕ). c.self.inside.held + n) more);
        waits = waits_more c.self.invariant.kept c.args.group c.args.event c.take_accepted.new.self.streams c.in_default.ensures.fault (ap (λ (r : Remembered). r.streams) c.in-Ok.ensures.ok) c.keep.new.windows c.in_ok-keep.ensures.ok;
      };
      forgets = forgets_taken c.self.inside.lanes c.take_accepted.new.self c.args.group c.args.event c.self.invariant.kept.state.sequence.prefixes c.in_default.ensures.fault c.in-Ok.ensures.ok c.take_accepted.ensures.prefixes c.self.inside.frontier c.self.inside.frontier (λ i. omega arith) c.self.invariant.forgets;
    }

pub invariant_of-self-in_default-take_accepted : goal.invariant_of-self-in_default-take_accepted
invariant_of-self-in_default-take_accepted g c =
    rw c.in_default-take_accepted.ensures.unchanged (record {
      kept = record { state = c.self.invariant.kept.state; waits = waits_again c.self.invariant.kept c.forget.new.windows (c.forget.ensures c.self.inside.windows c.in_ok-keep.ensures.ok) };
      forgets = c.self.invariant.forgets;
    })
