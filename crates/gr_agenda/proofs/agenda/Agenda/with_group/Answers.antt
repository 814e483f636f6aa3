use Rattle.gr_agenda.proofs.ComingLemmas.{kept_with_group}
use Rattle.gr_agenda.proofs.agenda.Agenda.with_group.Goals as goal

pub invariant_of-result : goal.invariant_of-result
invariant_of-result g c =
    let inside = c.self.inside in
    let is = c.sequence_holds.ensures in
    rw c.in_ok-order.ensures
    (kept_with_group inside.order c.args.group c.args.items is.prefixes is.lawful (rw (← c.self.view_is) at c.requires) inside.worklist inside.waiting.items
    c.in_ok-lists.lists.items inside.undiverged.items c.self.invariant c.in_ok-lists.ensures)
