use Rattle.gr_model.proofs.Common.{AllWithin}
use Rattle.gr_model.specs.Prelude.{IsOfItsWord}
use Rattle.gr_timeline.proofs.reasons.root_by_names.Given as goal

abbrev pub invariant-loop-name : goal.invariant-loop-name
invariant-loop-name g l = AllWithin (IsOfItsWord l.judged l.event) l.names 0 l.name-index
