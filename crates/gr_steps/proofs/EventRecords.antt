-- The record of an event is in its group's list; a name is that of one release, and a barrier has none.
use Rattle.gr_model.proofs.Common.{◌≡◌, ℕ, suc, ◌<◌, Bool, true, List, [], ◌∷◌, length, Contains, Some, slice_get, filter, arith, and_parts, nat_tests, slice_get_past, get_or_past}
use Rattle.gr_steps.specs.Types.{Event, EventId, Name}
use Rattle.gr_model.specs.Prelude.{is_barrier, MatchesBy, ArePrefixes, IsEvent, Streams, event_at, is_of, list_of, size_of}
use Rattle.gr_model.proofs.Cuts.{same_event}

-- what a filter keeps is there
pub filter-there : {X : Type 0} (test : X → Bool) (xs : List X) (k : ℕ) (x : X) → slice_get (filter test xs) k ≡ Some x → (p : ℕ) × (slice_get xs p ≡ Some x) × (test x ≡ true)
filter-there test [] k x at = cc
filter-there test (y ∷ xs) k x at = grind (arith, later, filter-there test xs)
  where
    later : (p : ℕ) → (slice_get xs p ≡ Some x) × (test x ≡ true) → (q : ℕ) × (slice_get (y ∷ xs) q ≡ Some x) × (test x ≡ true)
    later p h = (suc p, h.0, h.1)

-- a group with an event has a list
pub group_there : (s : Streams) (e : EventId) → IsEvent s e → e.at.group < length s.lists
group_there s e there = grind (arith, filter-there, get_or_past, slice_get_past)

module _ (s : Streams) (prefixes : ArePrefixes s) (e : EventId) (x : Event) (at : event_at s e ≡ Some x) where
  -- an event is of a group and an item of the shape
  pub group_of_event : e.at.group < length s.sizes
  group_of_event = omega (arith, group_there s e (x, at), prefixes.count)

  pub item_of_event : e.at.item < size_of s e.at.group
  item_of_event =
      let kept = filter-there (is_of e.at.item) (list_of s e.at.group) e.index x at in
      grind (arith, kept, nat_tests, and_parts, (prefixes.each e.at.group group_of_event).good kept.0 x kept.1)

-- a name is that of one release
pub one_release : (s : Streams) (n : Name) (e d f : EventId) → MatchesBy s n e d → MatchesBy s n e f → d ≡ f
one_release s n e d f a b = grind (arith, same_event)

pub barriers_name_nothing : (s : Streams) → ArePrefixes s → (e : EventId) (x : Event) (n : Name) → event_at s e ≡ Some x → is_barrier x ≡ true → Contains x.names n → ⊥
barriers_name_nothing s prefixes e x n at barrier named =
    let there = filter-there (is_of e.at.item) (list_of s e.at.group) e.index x at in
    grind (arith, barrier, named, (prefixes.each e.at.group (group_of_event s prefixes e x at)).good there.0 x there.1)
