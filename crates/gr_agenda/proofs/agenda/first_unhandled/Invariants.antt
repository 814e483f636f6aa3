use Rattle.gr_model.proofs.Common.{AllWithin}
use Rattle.gr_agenda.specs.Kept.{IsReleaseHandled}
use Rattle.gr_agenda.proofs.agenda.first_unhandled.Given as goal

abbrev pub invariant-loop-name : goal.invariant-loop-name
invariant-loop-name g l = AllWithin (IsReleaseHandled l.order.taken l.order.handled) l.names 0 l.name-index
