-- An input that is read piece by piece.
use Rattle.gr_model.proofs.Common.{◌≡◌, ℕ, List, ◌++◌, Option, None, Some, sym, ap, ◌∙◌, subst, append_assoc, IfSome, Consumes}
use Rattle.gr_intake.specs.declared.intake.Intake.{Intake}
use Rattle.gr_intake.specs.Intakes.{Moves, behind}
use Rattle.gr_intake.specs.Joined.{joined_of}

-- ---- what was read so far

-- the bytes that were read are those that were taken and those that are held
abbrev pub StandsSoFar : {Z : Type 0} → Intake Z → List ℕ → List ℕ → Type 0
StandsSoFar i held bytes = (more : List ℕ) → joined_of (bytes ++ more) ≡ behind i (held ++ more)

-- a piece more was read
pub piece_more : {Z : Type 0} (i : Intake Z) (held bytes piece : List ℕ) → StandsSoFar i held bytes → StandsSoFar i (held ++ piece) (bytes ++ piece)
piece_more i held bytes piece so_far = λ more. ap joined_of (append_assoc bytes piece more) ∙ (so_far (piece ++ more) ∙ ap (behind i) (sym (append_assoc held piece more)))

-- and taken
pub piece_taken : {Z : Type 0} (i j : Intake Z) (held left bytes : List ℕ) → StandsSoFar i held bytes → Moves i held j left → StandsSoFar j left bytes
piece_taken i j held left bytes so_far moves = λ more. so_far more ∙ moves.goes more

-- what holds of all bytes after those that were read holds of what the reader had
pub at_consumed : (old new : Option (List ℕ)) (bytes : List ℕ) (P : List ℕ → Type 0) → Consumes old new bytes → ((more : List ℕ) → P (bytes ++ more)) → IfSome old P
at_consumed None new bytes P consumes all = tt
at_consumed (Some xs) None bytes P consumes all = absurd consumes
at_consumed (Some xs) (Some ys) bytes P consumes all = subst P (sym consumes) (all ys)
