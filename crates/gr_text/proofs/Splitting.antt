-- The first line of a text.
use Rattle.gr_model.proofs.Common.{◌≡◌, ℕ, ◌<◌, List, [], ◌∷◌, length, Option, Some, None, refl, arith, nat_tests}
use Rattle.gr_text.specs.Prelude.{lines_of, cut_at}

-- a text that is over has no line
pub no_line : (text : List ℕ) → length text ≡ 0 → lines_of text ≡ []
unfolding lines_of
no_line [] none = refl
no_line (b ∷ bytes) none = absurd (omega arith)

-- what is left after the first line
abbrev pub left : Option (List ℕ) → List ℕ
left None = []
left (Some rest) = rest

-- the first line ends at the first line feed; in a form that `grind` finds
pub first_line : (text : List ℕ) → 0 < length text
    → (cut_at 10 text ≡ cut_at 10 text) × (lines_of text ≡ (cut_at 10 text).0 ∷ lines_of (left (cut_at 10 text).1)) × (length (left (cut_at 10 text).1) < length text)
unfolding lines_of cut_at
first_line [] some = absurd (omega arith)
first_line (b ∷ []) some = (refl, grind (arith, nat_tests), grind (arith, nat_tests))
first_line (b ∷ c ∷ text) some = let ih = first_line (c ∷ text) (omega arith) in (refl, grind (arith, nat_tests), grind (arith, nat_tests))
