use Rattle.gr_model.proofs.Common.{◌≡◌}
use Rattle.gr_agenda.proofs.agenda.Agenda.ready.Given as goal

abbrev pub invariant-loop : goal.invariant-loop
invariant-loop g l = l.self ≡ l.fn.self
