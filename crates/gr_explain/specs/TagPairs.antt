-- The pairs of tags that race on a word, found along the accesses to it.
-- Source: docs/MODEL.md, "Hits". Tags are this project's own.
use Rattle.std.specs.Prelude.{◌≡◌, ◌⊎◌, ◌∷◌, ◌++◌, ◌==◌, ◌&&◌, ◌||◌, ℕ, Bool, false, AllPairs, Contains, IsTrue, List, []}
use Rattle.std.specs.List.{list_any}
use Rattle.gr_explain.specs.Types.{EventId, Word, Class, Race, TaggedRace}
use Rattle.gr_explain.specs.declared.tag_pairs.TagPairs.{TagPairs}
use Rattle.gr_model.specs.Prelude.{HasTags, IsTurned, EventBelow}
use Rattle.gr_shadow.specs.Clashes.{ClockedAccess, IsClashIn, event_of}
use Rattle.gr_explain.specs.Alike.{AlikeEvents, IsInPlaceOf, are_of_groups, event_clashes, is_sought}
use Rattle.gr_explain.specs.ClashPairs.{IsClashPair, IsOfList}

-- ---- races with their tags

-- the two tags of a race are these
abbrev pub is_of_tags : ℕ → ℕ → TaggedRace → Bool
is_of_tags a b t = ((t.tag == a) && (t.other == b)) || ((t.tag == b) && (t.other == a))

-- a race is of these tags, and of two groups where that is asked for
abbrev pub is_so : Bool → ℕ → ℕ → TaggedRace → Bool
is_so two a b t = is_of_tags a b t && are_of_groups two t.race.first t.race.second

-- there is a race of these tags, and of two groups where that is asked for
abbrev pub has_tags : Bool → List TaggedRace → ℕ → ℕ → Bool
has_tags two found a b = list_any (is_so two a b) found

-- no two races have the same tags
abbrev pub HaveOtherTags : List TaggedRace → Type 0
HaveOtherTags found = AllPairs (λ t u. is_of_tags t.tag t.other u ≡ false) found

-- the race of a later access with that of an earlier event, where the two differ
pub record IsFound (earlier : EventId) (y : ClockedAccess) (r : Race) : Type 0 where
  pub word : r.word ≡ y.word
  pub turned : IsTurned earlier (event_of y) (r.first, r.second)
  pub below : ¬ (earlier ≡ event_of y) → EventBelow r.first r.second

-- the race of a later access with one of these with which it clashes
pub record IsFoundIn (l : AlikeEvents) (y : ClockedAccess) (r : Race) : Type 0 where
  pub earlier : EventId
  pub event : Contains l.events earlier
  pub clash : IsTrue (event_clashes l.class y earlier)
  pub found : IsFound earlier y r

-- the race of a later access with one of some lists, with its tags
pub record IsFoundAmong (lists : List AlikeEvents) (y : ClockedAccess) (tag : ℕ) (t : TaggedRace) : Type 0 where
  pub list : AlikeEvents
  pub there : Contains lists list
  pub found : IsFoundIn list y t.race
  pub tags : IsTrue (is_of_tags list.tag tag t)

-- a race stays, or a race of a later access with one of these takes its place; there is one of two groups then, if there was or if the later
-- access clashes with one of another group
pub record IsPreferred (l : AlikeEvents) (y : ClockedAccess) (old new : Race) : Type 0 where
  pub one : (old ≡ new) ⊎ IsFoundIn l y new
  pub kept : (two : Bool) → IsTrue (are_of_groups two old.first old.second) → IsTrue (are_of_groups two new.first new.second)
  pub whole : (two : Bool) (e : EventId) → Contains l.events e → IsTrue (is_sought two l.class y e) → IsTrue (are_of_groups two new.first new.second)

-- the races of a later access with these were added: one for each two tags that had none, or none of two groups
pub record Finds (y : ClockedAccess) (tag : ℕ) (lists : List AlikeEvents) (old new : List TaggedRace) : Type 0 where
  pub kept : (two : Bool) (a b : ℕ) → IsTrue (has_tags two old a b) → IsTrue (has_tags two new a b)
  pub each : (t : TaggedRace) → Contains new t → Contains old t ⊎ IsFoundAmong lists y tag t
  pub whole : (two : Bool) (l : AlikeEvents) (e : EventId) → Contains lists l → Contains l.events e → IsTrue (is_sought two l.class y e) → IsTrue (has_tags two new l.tag tag)
  pub others : HaveOtherTags old → HaveOtherTags new

-- ---- the accesses that are kept

-- the event of an access of this tag and class is kept
pub record IsKeptIn (lists : List AlikeEvents) (tag : ℕ) (class : Class) (e : EventId) : Type 0 where
  pub list : AlikeEvents
  pub there : Contains lists list
  pub tag_is : list.tag ≡ tag
  pub class_is : list.class ≡ class
  pub event : Contains list.events e

-- an access with a tag is of this tag, class and event
pub record IsThat (y : ClockedAccess) (tag : ℕ) (t : ℕ) (c : Class) (e : EventId) : Type 0 where
  pub tag_is : t ≡ tag
  pub class_is : c ≡ y.class
  pub event_is : e ≡ event_of y

-- one more access is kept: what is kept is that one or was kept, and each of these is represented by one that is kept
pub record KeepsMore (old : List AlikeEvents) (tag : ℕ) (y : ClockedAccess) (new : List AlikeEvents) : Type 0 where
  pub each : (t : ℕ) (c : Class) (e : EventId) → IsKeptIn new t c e → IsThat y tag t c e ⊎ IsKeptIn old t c e
  pub some : (t : ℕ) (c : Class) (e : EventId) → IsThat y tag t c e ⊎ IsKeptIn old t c e → (d : EventId) × IsKeptIn new t c d × IsInPlaceOf d e

-- ---- the list of accesses

-- an event of a tag and a class is that of an access to the word
pub record IsOfTag (tag_of : EventId → ℕ) (w : Word) (accesses : List ClockedAccess) (t : ℕ) (c : Class) (e : EventId) : Type 0 where
  pub access : IsOfList w accesses e c
  pub tag_is : tag_of e ≡ t

-- a race of two accesses to the word that clash, with their tags
pub record IsTaggedClash (tag_of : EventId → ℕ) (w : Word) (accesses : List ClockedAccess) (t : TaggedRace) : Type 0 where
  pub word : t.race.word ≡ w
  pub clash : IsClashPair w accesses (t.race.first, t.race.second)
  pub tags : HasTags tag_of (t.race.first, t.race.second) t.tag t.other

-- each of these accesses to a word is kept, or a later one of its item, tag and class; and there is one race for each two tags that have
-- accesses that clash: one of two groups, if accesses of two groups clash
pub record StandsForTags {Z : Type 0} (tag_of : EventId → ℕ) (w : Word) (accesses : List ClockedAccess) (pairs : TagPairs Z) : Type 0 where
  pub each : (t : ℕ) (c : Class) (e : EventId) → IsKeptIn pairs.lists.items t c e → IsOfTag tag_of w accesses t c e
  pub some : (t : ℕ) (c : Class) (e : EventId) → IsOfTag tag_of w accesses t c e → (d : EventId) × IsKeptIn pairs.lists.items t c d × IsInPlaceOf d e
  pub sound : (t : TaggedRace) → Contains pairs.found.items t → IsTaggedClash tag_of w accesses t
  pub whole : (two : Bool) (e f : EventId) → IsClashIn accesses w e f → IsTrue (are_of_groups two e f) → IsTrue (has_tags two pairs.found.items (tag_of e) (tag_of f))
  pub others : HaveOtherTags pairs.found.items

-- one more access came, which has this tag
abbrev pub IsTagAdded : {Z : Type 0} → ClockedAccess → ℕ → TagPairs Z → TagPairs Z → Type 0
IsTagAdded y tag old new = (tag_of : EventId → ℕ) (accesses : List ClockedAccess) → tag_of (event_of y) ≡ tag → StandsForTags tag_of y.word accesses old → StandsForTags tag_of y.word (accesses ++ y ∷ []) new
