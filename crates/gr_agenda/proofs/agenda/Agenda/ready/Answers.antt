use Rattle.gr_order.specs.declared.steps.Ready.TheVariants.{Item, Group}
use Rattle.gr_order.proofs.RestLemmas.{rest_is_done}
use Rattle.gr_agenda.proofs.agenda.Agenda.ready.Goals as goal

pub returns-then-is_done-clause-ready : goal.returns-then-is_done-clause-ready
returns-then-is_done-clause-ready g c =
    let kept = rw (c.self-2.view_is, c.loop.invariant) at c.self-2.invariant.0 in
    let none = c.is_done.ensures c.if-is_done.true in
    rest_is_done c.args.self.now (rw c.self.view_is at c.sequence_holds.ensures)
    (record { handles = λ i can. none (Item i) (kept.ready (Item i) can); meets = λ n can. none (Group n) (kept.ready (Group n) can) })
