-- What a writer holds after a text was written to it, or a prefix of the text where the writer failed.
use Rattle.std.specs.Prelude.{◌≡◌, ℕ, List, [], ◌∷◌, ◌++◌, Option, Result, OnOk, OnErr, codes}
use Rattle.std.specs.Io.KnownBytes.{Appends}
use Rattle.gr_report.specs.declared.putting.WriteFault.{WriteFault}

-- known bytes grew by a prefix of the text
abbrev pub AppendsPrefix : Option (List ℕ) → Option (List ℕ) → List ℕ → Type 0
AppendsPrefix old new text = (prefix : List ℕ) × (back : List ℕ) × (text ≡ prefix ++ back) × Appends old new prefix

-- known bytes grew by the text, or on a fault by a prefix of it
pub record Puts (old new : Option (List ℕ)) (r : Result (Unit {0}) WriteFault) (text : List ℕ) : Type 0 where
  pub whole : OnOk r (Appends old new text)
  pub prefix : OnErr r (AppendsPrefix old new text)

-- a word, and a number after it
unfoldable pub field : List ℕ → List ℕ → List ℕ
field word number = word ++ number

-- the same with the end of the line
abbrev pub line : List ℕ → List ℕ → List ℕ
line word number = field word number ++ codes "\n"

-- texts one after another, and what ends the line
abbrev pub ended : {X : Type 0} → (X → List ℕ) → List X → List ℕ → List ℕ
ended text [] end = end
ended text (x ∷ xs) end = text x ++ ended text xs end
