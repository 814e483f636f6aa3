-- What a writer has of what an input means.
use Rattle.std.specs.Prelude.{◌≡◌, ℕ, List, Option, Result, Ok}
use Rattle.std.specs.Io.KnownBytes.{Appends}
use Rattle.gr_text.specs.Types.{Fault}
use Rattle.gr_report.specs.Putting.{AppendsPrefix}

-- all of it was written
abbrev pub Writes : Result (List ℕ) Fault → Option (List ℕ) → Option (List ℕ) → Type 0
Writes meaning old new = (out : List ℕ) × (meaning ≡ Ok out) × Appends old new out

-- a prefix of it was written
abbrev pub WritesPrefix : Result (List ℕ) Fault → Option (List ℕ) → Option (List ℕ) → Type 0
WritesPrefix meaning old new = (out : List ℕ) × (meaning ≡ Ok out) × AppendsPrefix old new out
