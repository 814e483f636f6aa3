use Rattle.gr_order.proofs.ForgetLemmas.{next_remembered}
use Rattle.gr_model.proofs.Common.{arith}
use Rattle.gr_order.proofs.ReadyLemmas.{none_next, ready_next}
use Rattle.gr_order.proofs.WaitLemmas.{first_is}
use Rattle.gr_order.proofs.schedule.Schedule.next.Goals as goal

pub is_ready-requires-clause-there : goal.is_ready-requires-clause-there
is_ready-requires-clause-there g c = first_is c.self.invariant.kept.waits c.args.item c.get-index.ensures.count c.waiting.ensures c.in_ok-taken.was

pub is_ready-requires-clause-remembered : goal.is_ready-requires-clause-remembered
is_ready-requires-clause-remembered g c =
    next_remembered c.self.inside.lanes c.self.inside.frontier c.self.invariant.forgets (record { at = c.args.item; index = c.get-index.result }) (omega (arith, c.get-index.ensures.count))

pub returns-in_err-taken-clause-next : goal.returns-in_err-taken-clause-next
returns-in_err-taken-clause-next g c =
    rw (c.from_residual.ensures, ← c.self.view_is) (none_next c.self.inside.lanes.streams c.self.inside.handled c.self.invariant.kept.state.sequence.lawful c.self.inside.frontier c.self.invariant.kept.state.first (record { at = c.args.item; index = c.get-index.result }) c.get-index.ensures.count (first_is c.self.invariant.kept.waits c.args.item c.get-index.ensures.count c.waiting.ensures c.in_err-taken.was))

pub returns-clause-next : goal.returns-clause-next
returns-clause-next g c =
    let known = ready_next c.self.inside.lanes.streams c.self.inside.handled c.self.invariant.kept.state.sequence.lawful c.self.inside.frontier c.self.invariant.kept.state.first (record { at = c.args.item; index = c.get-index.result }) c.get-index.ensures.count c.in_ok-taken.taken (first_is c.self.invariant.kept.waits c.args.item c.get-index.ensures.count c.waiting.ensures c.in_ok-taken.was) c.is_ready.result c.is_ready.ensures in
    rw (c.then_some.ensures, ← c.self.view_is) known
