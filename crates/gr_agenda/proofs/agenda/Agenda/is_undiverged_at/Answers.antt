use Rattle.gr_agenda.proofs.UndivergedLemmas.{undiverged_only}
use Rattle.gr_agenda.proofs.agenda.Agenda.is_undiverged_at.Goals as goal

pub returns-in-Some : goal.returns-in-Some
returns-in-Some g c next = rw (← c.self.view_is) (undiverged_only c.self.inside.order c.sequence_holds.ensures c.args.item c.in-Some.instance
    (c.is_next_barrier.ensures next) (c.self.invariant.1 c.args.item.group c.in-Some.instance (rw c.deref.ensures.value at c.in-Some.ensures)))
