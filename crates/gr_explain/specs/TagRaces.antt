-- The races of some words, one for each two tags that race on a word.
-- Source: docs/MODEL.md, "Races". Tags are this project's own.
use Rattle.std.specs.Prelude.{◌≡◌, ◌≢◌, ◌⊎◌, ℕ, Bool, List, All, AllPairs, Contains, IsTrue}
use Rattle.gr_explain.specs.Types.{EventId, Word, Race}
use Rattle.gr_model.specs.Prelude.{HasTags, IsRacePair, Pair, TagsRace, WordBelow, Streams}

-- the events of a pair are of two work-groups
abbrev pub AreOfTwoGroups : Pair → Type 0
AreOfTwoGroups pair = pair.0.at.group ≢ pair.1.at.group

-- one of these is a race on the word of two accesses with these tags, and of two groups where that is asked for
pub record HasRaceOfTags (tag_of : EventId → ℕ) (races : List Race) (two : Bool) (w : Word) (a b : ℕ) : Type 0 where
  pub race : Race
  pub there : Contains races race
  pub word : race.word ≡ w
  pub tags : HasTags tag_of (race.first, race.second) a b
  pub groups : IsTrue two → AreOfTwoGroups (race.first, race.second)

-- the word of one race is below that of another, or they are of one word and have other tags
abbrev pub IsApart : (EventId → ℕ) → Race → Race → Type 0
IsApart tag_of r q = WordBelow r.word q.word ⊎ ((r.word ≡ q.word) × ¬ HasTags tag_of (r.first, r.second) (tag_of q.first) (tag_of q.second))

-- for each of these words, a race for each two tags that race on it: one of two groups, if there is such a race; by the words ascending,
-- and no two tags of a word twice
pub record AreTagRaces (s : Streams) (tag_of : EventId → ℕ) (words : List Word) (races : List Race) : Type 0 where
  pub pairs : All (λ r. IsRacePair s r.word (r.first, r.second)) races
  pub within : All (λ r. Contains words r.word) races
  pub whole : (two : Bool) (w : Word) (a b : ℕ) → Contains words w → (h : TagsRace s tag_of w a b) → (IsTrue two → AreOfTwoGroups h.pair) → HasRaceOfTags tag_of races two w a b
  pub apart : AllPairs (IsApart tag_of) races
