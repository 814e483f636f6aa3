-- The least racing pair of a word.
-- Source: docs/MODEL.md, "Races" and "The report". The order of pairs is this project's own.
use Rattle.std.specs.Prelude.{◌≡◌, ◌⊎◌, Option, None, Some}
use Rattle.gr_model.specs.declared.event.Word.{Word}
use Rattle.gr_model.specs.Prelude.{IsRacePair, Pair, EventBelow, Streams}

-- by the first event, and then by the second
abbrev pub PairBelow : Pair → Pair → Type 0
PairBelow p q = EventBelow p.0 q.0 ⊎ ((p.0 ≡ q.0) × EventBelow p.1 q.1)

-- the least pair for which P holds
abbrev pub IsLeast : (Pair → Type 0) → Pair → Type 0
IsLeast P pair = P pair × ((other : Pair) → P other → ¬ PairBelow other pair)

-- a racing pair of the word, and none is below it
abbrev pub IsLeastRace : Streams → Word → Pair → Type 0
IsLeastRace s w pair = IsLeast (IsRacePair s w) pair

-- the least one, if there is any
abbrev pub IsLeastOf : (Pair → Type 0) → Option Pair → Type 0
IsLeastOf P None = (pair : Pair) → ¬ P pair
IsLeastOf P (Some pair) = IsLeast P pair
