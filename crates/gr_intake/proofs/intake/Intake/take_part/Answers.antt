use Rattle.gr_model.proofs.Common.{arith, length-append}
use Rattle.gr_intake.proofs.intake.Intake.take_part.Goals as goal

pub returns-then-not-ended-clause-moves : goal.returns-then-not-ended-clause-moves
returns-then-not-ended-clause-moves g c = grind (arith, c.in_ok-ended.ensures.stays, c.in_ok-ended.ensures.left, c.in_ok-ended.ensures.goes, c.as_slice.ensures.value)

pub returns-then-not-ended-clause-stuck : goal.returns-then-not-ended-clause-stuck
returns-then-not-ended-clause-stuck g c = λ same. grind (arith, c.in_ok-ended.ensures.stays)

pub returns-clause-moves : goal.returns-clause-moves
returns-clause-moves g c = grind (arith, c.in_ok-ended.ensures.left, c.in_ok-ended.ensures.ends, c.in_ok-ended.ensures.goes, c.as_slice.ensures.value)

pub returns-clause-stuck : goal.returns-clause-stuck
returns-clause-stuck g c = λ same. grind (arith, length-append, c.in_ok-ended.ensures.left)
