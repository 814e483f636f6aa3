use Rattle.gr_model.proofs.Common.{arith}
use Rattle.gr_model.specs.declared.event.EventId.{EventId}
use Rattle.gr_order.proofs.ForgetLemmas.{unhandled_remembered}
use Rattle.gr_agenda.proofs.agenda.next_barrier.Goals as goal

pub barrier_number-requires : goal.barrier_number-requires
barrier_number-requires g c =
    let e : EventId = record { at = c.args.item; index = c.get-index.result } in
    unhandled_remembered c.lanes.result.now c.args.order.now.handled c.lanes.ensures.forgets e (λ there.
    let below = (c.frontier-frontier.ensures.first e).0 there in omega (arith, below, c.get-index.ensures.count))
