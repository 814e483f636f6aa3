-- The pairs of tags that race on each of some words.
use Rattle.std.specs.Prelude.{◌≡◌, ℕ, List, [], ◌∷◌, ◌++◌, Contains, Option, None, Some, map}
use Rattle.std.specs.Map.{lookup}
use Rattle.gr_explain.specs.Types.{EventId, Word, Race}
use Rattle.gr_explain.specs.declared.tag_pairs.TagPairs.{TagPairs}
use Rattle.gr_shadow.specs.Clashes.{ClockedAccess}
use Rattle.gr_shadow.specs.Kept.{same_word}
use Rattle.gr_explain.specs.TagPairs.{StandsForTags}

-- the pairs of a word are kept, and they are those of the accesses to it
pub record HasPairs {Z : Type 0} (tag_of : EventId → ℕ) (accesses : List ClockedAccess) (entries : List (Word × TagPairs Z)) (w : Word) : Type 0 where
  pub pairs : TagPairs Z
  pub at : lookup (same_word w) entries ≡ Some pairs
  pub stands : StandsForTags tag_of w accesses pairs

-- so it is for each of these words
abbrev pub StandForWords : {Z : Type 0} → (EventId → ℕ) → List Word → List ClockedAccess → List (Word × TagPairs Z) → Type 0
StandForWords tag_of words accesses entries = (w : Word) → Contains words w → HasPairs tag_of accesses entries w

-- the races that were found on a word, if its pairs are kept
abbrev pub races_of : {Z : Type 0} → Option (TagPairs Z) → List Race
races_of None = []
races_of (Some pairs) = map (λ t. t.race) pairs.found.items

-- those of each of these words
abbrev pub races_at : {Z : Type 0} → List (Word × TagPairs Z) → List Word → List Race
races_at entries [] = []
races_at entries (w ∷ words) = races_of (lookup (same_word w) entries) ++ races_at entries words
