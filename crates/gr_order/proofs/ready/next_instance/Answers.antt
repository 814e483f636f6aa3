use Rattle.gr_model.proofs.Common.{arith, refl}
use Rattle.gr_clocks.specs.Tables.{item_of}
use Rattle.gr_order.proofs.ForgetLemmas.{next_remembered}
use Rattle.gr_order.proofs.WaitLemmas.{first_is}
use Rattle.gr_order.proofs.MeetLemmas.{come, first_there, next_known}
use Rattle.gr_order.proofs.ready.next_instance.Goals as goal

pub returns-in_err-mine : goal.returns-in_err-mine
returns-in_err-mine g c = rw c.from_residual.ensures (λ k h.
    first_there c.args.lanes.now.streams c.args.frontier.now c.args.group k h (first_is c.requires.waiting (item_of c.args.group 0) refl c.waiting.ensures c.in_err-mine.was))

pub barrier_number-requires : goal.barrier_number-requires
barrier_number-requires g c =
    next_remembered c.args.lanes.now c.args.frontier.now c.requires.forgets (record { at = item_of c.args.group 0; index = c.get-index.result }) (omega (arith, c.get-index.ensures.count))

pub all_stand_next-requires-clause-remembered : goal.all_stand_next-requires-clause-remembered
all_stand_next-requires-clause-remembered g c =
    next_remembered c.args.lanes.now c.args.frontier.now c.requires.forgets (record { at = item_of c.args.group 0; index = c.get-index.result }) (omega (arith, c.get-index.ensures.count)) c.in_ok-number.number c.in_ok-number.ensures

pub all_stand_next-requires-clause-come : goal.all_stand_next-requires-clause-come
all_stand_next-requires-clause-come g c =
    let at = first_is c.requires.waiting (item_of c.args.group 0) refl c.waiting.ensures c.in_ok-mine.was in
    come c.args.lanes.now.streams c.args.frontier.now c.args.group c.requires.prefixes c.in_ok-mine.mine at c.in_ok-number.number c.get-index.result c.in_ok-number.ensures c.get-index.ensures.count

pub returns : goal.returns
returns g c =
    let at = first_is c.requires.waiting (item_of c.args.group 0) refl c.waiting.ensures c.in_ok-mine.was in
    rw c.then_some.ensures
    (next_known c.args.lanes.now.streams c.args.frontier.now c.args.group c.requires.prefixes c.in_ok-mine.mine at c.in_ok-number.number c.get-index.result c.in_ok-number.ensures c.get-index.ensures.count
    c.all_stand_next.result c.all_stand_next.ensures)
