use Rattle.gr_agenda.proofs.AtOnceLemmas.{kept_at_once}
use Rattle.gr_agenda.proofs.agenda.Agenda.take_at_once.Goals as goal

pub invariant_of-self : goal.invariant_of-self
invariant_of-self g c =
    let inside = c.self.inside in
    let go = rw (← c.self.view_is) at c.requires.goes in
    kept_at_once inside.order c.sequence_holds.ensures inside.worklist inside.waiting.items c.self.invariant.0 c.args.group c.args.event go
    c.take_at_once.new.self c.take_at_once.ensures.step inside.undiverged.items c.self.invariant.1
