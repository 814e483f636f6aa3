-- What is shown of the races of a launch.
-- Source: docs/OUTPUT.md, "races".
use Rattle.std.specs.Prelude.{◌≡◌, ℕ, Bool, List, Option, length}
use Rattle.gr_races.specs.Types.{Word, Race, Cause, Placed}
use Rattle.gr_model.specs.Prelude.{IsRacy, AreRaces, Streams, IsGrounded}
use Rattle.gr_explain.specs.TagRaces.{AreTagRaces}
use Rattle.gr_races.specs.Causes.{AreTold}
use Rattle.gr_races.specs.Kinds.{all_kinded, tag_at}
use Rattle.gr_races.specs.Listing.{Entry, entries, in_order}

-- the races of a launch if places have these numbers, one for each racy word and each two tags that race on it, kind by kind, with
-- causes if they are asked for, and how many racy words there are
pub record AreListedRaces (s : Streams) (numbers : Placed → Option ℕ) (causes : Bool) (by_kind : List Entry) (count : ℕ) : Type 0 where
  pub racy : List Word
  pub words : AreRaces s racy
  pub races : List Race
  pub exact : AreTagRaces s (tag_at s numbers) racy races
  pub told : List Cause
  pub causes_told : AreTold s causes races told
  pub listed : by_kind ≡ entries (in_order (all_kinded s numbers races told))
  pub counted : count ≡ length racy

-- a word is racy
abbrev pub HasRace : Streams → Type 0
HasRace s = (w : Word) × IsRacy s (IsGrounded s) w
