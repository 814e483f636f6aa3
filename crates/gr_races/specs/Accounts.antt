-- The least racing pair of a word, what its accesses are, what lies between them, the cause of their race, and the word's other races.
-- Source: docs/OUTPUT.md, "explain --long".
use Rattle.std.specs.Prelude.{◌≡◌, ◌∷◌, ◌==◌, ◌&&◌, ◌||◌, [], ℕ, Bool, List, MatchOption, Option, Some, filter, not}
use Rattle.gr_races.specs.Types.{EventId, Word, Race, Placed, KindedRace, Cause, Account, Details}
use Rattle.gr_model.specs.Prelude.{IsRacy, Streams, IsGrounded}
use Rattle.gr_explain.specs.LeastRaces.{IsLeastRace}
use Rattle.gr_explain.specs.TagRaces.{AreTagRaces}
use Rattle.gr_races.specs.Kinds.{all_kinded, is_of_tags, tag_at}
use Rattle.gr_races.specs.Listing.{in_order}
use Rattle.gr_races.specs.Causes.{IsCause}
use Rattle.gr_races.specs.Between.{BetweenSaid, between_of, between_said}
use Rattle.gr_timeline.specs.Details.{details_of}

-- the races of a word but for those of two tags; but those of two groups are among them, if the pair at hand is of one
abbrev pub others_of : List KindedRace → ℕ → ℕ → Bool → List KindedRace
others_of rows a b one_group = filter (λ row. not (is_of_tags row.kind a b) || (one_group && not row.kind.one_group)) rows

-- a race for each further two tags that race on the word, and of two groups for those of the pair if it is of one; those of two tags before
-- those of one
pub record AreOthers (s : Streams) (numbers : Placed → Option ℕ) (w : Word) (first second : EventId) (others : List KindedRace) : Type 0 where
  pub races : List Race
  pub exact : AreTagRaces s (tag_at s numbers) (w ∷ []) races
  pub listed : others ≡ others_of (in_order (all_kinded s numbers races [])) (tag_at s numbers first) (tag_at s numbers second) (first.at.group == second.at.group)

-- what is said of a racing pair
pub record AccountSaid : Type 0 where
  pub first : EventId
  pub second : EventId
  pub first_details : Details
  pub second_details : Details
  pub between : BetweenSaid
  pub cause : Cause
  pub others : List KindedRace

abbrev pub account_said : {Z : Type 0} → Account Z → AccountSaid
account_said a = record { first = a.first; second = a.second; first_details = a.first_details; second_details = a.second_details; between = between_said a.between; cause = a.cause; others = a.others.items }

pub record IsAccount (s : Streams) (numbers : Placed → Option ℕ) (w : Word) (a : AccountSaid) : Type 0 where
  pub least : IsLeastRace s w (a.first, a.second)
  pub first : details_of s a.first ≡ Some a.first_details
  pub second : details_of s a.second ≡ Some a.second_details
  pub between : a.between ≡ between_of s a.first a.second
  pub cause : IsCause s w a.first a.second a.cause
  pub others : AreOthers s numbers w a.first a.second a.others

-- that of the word's least racing pair, or none exactly if the word is not racy
abbrev pub IsAccountOf : Streams → (Placed → Option ℕ) → Word → Option AccountSaid → Type 0
IsAccountOf s numbers w account = MatchOption account (¬ IsRacy s (IsGrounded s) w) (λ a. IsAccount s numbers w a)
