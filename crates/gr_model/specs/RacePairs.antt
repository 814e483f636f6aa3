-- Racing pairs of a word.
-- Source: docs/MODEL.md, "Races" and "The report". That the smaller event comes first is this project's own.
use Rattle.std.specs.Prelude.{◌≡◌, ◌⊎◌, ℕ}
use Rattle.gr_model.specs.Types.{EventId, Word}
use Rattle.gr_model.specs.Races.{IsRace}
use Rattle.gr_model.specs.Reports.{EventBelow}
use Rattle.gr_model.specs.Streams.{Streams}
use Rattle.gr_model.specs.Waits.{IsGrounded}

-- two events, in their order
abbrev pub Pair : Type 0
Pair = EventId × EventId

-- two grounded events, the smaller one first, that are a race on the word
pub record IsRacePair (s : Streams) (w : Word) (pair : Pair) : Type 0 where
  pub below : EventBelow pair.0 pair.1
  pub first : IsGrounded s pair.0
  pub second : IsGrounded s pair.1
  pub race : IsRace s w pair.0 pair.1

-- the pair is of these two events
abbrev pub IsTurned : EventId → EventId → Pair → Type 0
IsTurned e f pair = (pair ≡ (e, f)) ⊎ (pair ≡ (f, e))

-- ---- by tags: a tag is a number that each event is given, that of its place in a program say

-- the pair's events have these two tags, in whatever order
abbrev pub HasTags : (EventId → ℕ) → Pair → ℕ → ℕ → Type 0
HasTags tag_of pair a b = (tag_of pair.0 ≡ a × tag_of pair.1 ≡ b) ⊎ (tag_of pair.0 ≡ b × tag_of pair.1 ≡ a)

-- two tags race on a word where two accesses with these tags race on it
pub record TagsRace (s : Streams) (tag_of : EventId → ℕ) (w : Word) (a b : ℕ) : Type 0 where
  pub pair : Pair
  pub race : IsRacePair s w pair
  pub tags : HasTags tag_of pair a b
