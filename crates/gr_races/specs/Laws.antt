-- What follows of the races of a launch kind by kind, of a launch with one of its rules relaxed, and of causes.
-- Source: docs/OUTPUT.md, "races" and "explain --long".
use Rattle.std.specs.Prelude.{◌≡◌, ◌↔◌, false, ℕ, List, Option, All, AllPairs, Contains, IsTrue, map}
use Rattle.std.specs.List.{list_any}
use Rattle.gr_races.specs.Types.{Cause, EventId, Word, Race, Placed, KindedRace, PlacedOperation, RaceKind, Relaxation}
use Rattle.gr_model.specs.Prelude.{AreAccepted, Streams}
use Rattle.gr_races.specs.Causes.{IsCause, IsPairOf}
use Rattle.gr_races.specs.Kinds.{all_kinded, by_tags, same_kind, tag_at, tag_of}
use Rattle.gr_races.specs.Listing.{in_order, kinds_of}
use Rattle.gr_races.specs.Relaxing.{relaxed}

-- no race is without a kind, and that of each has the event with the lesser tag first
abbrev pub EveryRaceHasAKind : Type 0
EveryRaceHasAKind = (s : Streams) (numbers : Placed → Option ℕ) (races : List Race) (told : List Cause) → All (IsPairOf s) races → map (λ row. row.race) (all_kinded s numbers races told) ≡ map (by_tags (tag_at s numbers)) races

-- no race is lost or added if they are put in order
abbrev pub EachRaceIsInOrder : Type 0
EachRaceIsInOrder = (rows : List KindedRace) (row : KindedRace) → Contains (in_order rows) row ↔ Contains rows row

-- two tags are one exactly if both accesses do the same at one place
abbrev pub SameTagsAreOne : Type 0
SameTagsAreOne = (p q : PlacedOperation) → tag_of p ≡ tag_of q → p ≡ q

-- two kinds are the same exactly if they are one
abbrev pub SameKindsAreOne : Type 0
SameKindsAreOne = (k l : RaceKind) → IsTrue (same_kind k l) ↔ (k ≡ l)

-- no two of the kinds are the same, and the kind of each row is one of them
abbrev pub EachRaceIsListedOnce : Type 0
EachRaceIsListedOnce = (rows : List KindedRace) → AllPairs (λ k l. same_kind k l ≡ false) (kinds_of rows) × All (λ row. IsTrue (list_any (λ l. same_kind l row.kind) (kinds_of rows))) rows

-- lists that are accepted still are if a rule is relaxed
abbrev pub RelaxedAreAccepted : Type 0
RelaxedAreAccepted = (r : Relaxation) (s : Streams) → AreAccepted s → AreAccepted (relaxed r s)

-- two causes of the same race are one
abbrev pub CauseIsOne : Type 0
CauseIsOne = (s : Streams) (w : Word) (e f : EventId) (c d : Cause) → IsCause s w e f c → IsCause s w e f d → c ≡ d
