use Rattle.gr_model.proofs.Common.{◌≡◌, false, true≢false, Option, None, Some, refl, arith, eqb-true, is_some, eqb-false, length-map, nil_from_length}
use Rattle.gr_intake.proofs.Comings.{ends_early, ends_whole}
use Rattle.gr_intake.proofs.intake.Intake.finish.Goals.{else-is_none-via-else-is_none}
use Rattle.gr_intake.proofs.intake.Intake.finish.Goals as goal

none_of : {X : Type 0} (o : Option X) → is_some o ≡ false → o ≡ None
none_of None is = refl
none_of (Some x) is = absurd (true≢false is)

pub returns-then-is_empty-clause-whole : goal.returns-then-is_empty-clause-whole
returns-then-is_empty-clause-whole g c = grind (arith, none_of, nil_from_length, eqb-true, ends_whole)

pub returns-clause-fault : goal.returns-clause-fault
returns-clause-fault g c = grind (arith, eqb-false, else-is_none-via-else-is_none, ends_early, length-map, c.requires.short)
