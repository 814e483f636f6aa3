-- The unmatched acquires, found one after the other.
use Rattle.gr_model.proofs.Common.{◌≡◌, ◌≢◌, ◌⊎◌, ℕ, ◌+◌, ◌<◌, ◌≤◌, List, [], ◌∷◌, ◌++◌, length, Some, None, refl, sym, ap, ◌∙◌, subst, inl, arith, Any, Contains, Option, get_or, common_steps, Contains-get_or}
use Rattle.gr_order.specs.Types.{Event, EventId, ItemId, Name, Word, Unmatched}
use Rattle.gr_model.specs.declared.report.AcquireCause.{AcquireCause}
use Rattle.gr_model.specs.declared.report.AcquireCause.TheVariants.{Absent, Behind, OtherWord}
use Rattle.gr_model.specs.Prelude.{HasAcquireCause, HasName, IsAbsent, IsOfItsWord, names_at, names_of, release_place, IsUnmatchedAcquire, IsUnmatchedEntry, Lists, UnmatchedBelow, ArePrefixes, Streams, event_at, size_of, word_at}
use Rattle.gr_model.proofs.Cuts.{same_event}
use Rattle.gr_clocks.specs.Counts.{Counts, count_of}
use Rattle.gr_order.specs.Acquires.{AreUnmatchedBefore, IsElsewhere, IsGroundedFrontier, IsItemBefore}
use Rattle.gr_barriers.proofs.Lists.{listed_push, listed_same}
use Rattle.gr_steps.proofs.Deciding.{by_cases, option_dec, word_dec}
use Rattle.gr_steps.proofs.EventRecords.{group_of_event, item_of_event}

-- ---- causes

module _ (s : Streams) (f : EventId) where
  absent_behind : HasAcquireCause s f Absent → HasAcquireCause s f Behind → ⊥
  absent_behind p q = grind (arith, q p.0 p.1)

  other_behind : HasAcquireCause s f OtherWord → HasAcquireCause s f Behind → ⊥
  other_behind p q = grind (arith, q p.1.0 p.1.1)

  one_cause : (a b : AcquireCause) → HasAcquireCause s f a → HasAcquireCause s f b → a ≡ b
  one_cause a b p q = grind (arith, absent_behind, other_behind)

-- where no name of an acquire has no release, and none a release of another word, each has one of its word
module _ (s : Streams) (f : EventId) (names : List Name) (word : Option Word) (names_are : names ≡ names_at s f) (word_is : word ≡ word_at s f) where
  had : (n : Name) → HasName s f n → Contains names n
  had n named = subst (λ xs. Contains xs n) (sym names_are) named

  pub cause_behind : (Any (IsAbsent s) names → ⊥) → (Any (IsElsewhere s word) names → ⊥) → HasAcquireCause s f Behind
  cause_behind none same n named =
      elim (release_place s n) as (λ o. (release_place s n ≡ o) → IsOfItsWord s f n) [
        | None ↦ λ absent. let there = had n named in absurd (none (there.0, n, there.1, there.2, absent))
        | Some k ↦ λ at. by_cases (option_dec word_dec (word_at s (record { at = n.at; index = k })) (word_at s f)) (λ its. (k, at, its)) (λ other. let there = had n named in absurd (same (there.0, n, there.1, there.2, subst (λ w. IsElsewhere s w n) (sym word_is) (k, at, other))))
      ] refl

-- ---- one item

module _ (s : Streams) where
  pub one_acquire : (u v : Unmatched) → IsUnmatchedEntry s u → IsUnmatchedEntry s v → u.event.at ≡ v.event.at → u ≡ v
  one_acquire u v a b at =
      let event : u.event ≡ v.event = grind (arith, same_event u.event v.event, a.unmatched.before v.event, b.unmatched.before u.event, a.unmatched.held, b.unmatched.held) in
      let cause = one_cause s v.event u.cause v.cause (rw event at a.cause) b.cause in
      λ d. record { event = event d; cause = cause d }

module _ (s : Streams) (frontier : Counts) (prefix : IsGroundedFrontier s frontier) (item : ItemId) (index : ℕ) (is : index ≡ count_of frontier item) where
  abbrev next : EventId
  next = record { at = item; index = index }

  -- an item's unmatched event is the next to be handled
  only_next : (e : EventId) → IsUnmatchedAcquire s e → e.at ≡ item → e ≡ next
  only_next e unmatched at = grind (arith, same_event e next, unmatched.held, unmatched.before, prefix e, prefix (record { at = e.at; index = index }), is)

  module _ (x : Event) (at_next : event_at s next ≡ Some x) where
    pub names_are : names_at s next ≡ x.names
    names_are = ap names_of at_next

    pub none_named : length x.names ≡ 0 → (u : Unmatched) → IsUnmatchedEntry s u → u.event.at ≢ item
    none_named none u unmatched at = grind (arith, only_next u.event, names_are)

    pub this_is : 0 < length x.names → (c : AcquireCause) → HasAcquireCause s next c → IsUnmatchedEntry s (record { event = next; cause = c })
    this_is some c cause = record {
      unmatched = record {
        event = (x, at_next);
        name = get_or x.names 0 (record { at = item; release = 0 });
        named = subst (λ xs. Contains xs (get_or x.names 0 (record { at = item; release = 0 }))) (sym names_are) (Contains-get_or x.names 0 (record { at = item; release = 0 }) some);
        held = λ grounded. let lt : index < count_of frontier item = (prefix next).0 grounded in omega arith;
        before = λ d at lt. let count : count_of frontier d.at ≡ index = ap (count_of frontier) at ∙ sym is in (prefix d).1 (omega arith);
      };
      cause = cause;
    }

-- ---- the list

before_more : (g i : ℕ) (at : ItemId) → IsItemBefore g i at → IsItemBefore g (i + 1) at
before_more g i at p = grind arith

before_cases : (g i : ℕ) (at : ItemId) → IsItemBefore g (i + 1) at → IsItemBefore g i at ⊎ (at ≡ record { group = g; item = i })
before_cases g i at before = grind (arith, common_steps)

module _ (s : Streams) where
  abbrev Found : ℕ → ℕ → Unmatched → Type 0
  Found g i u = IsUnmatchedEntry s u × IsItemBefore g i u.event.at

  module _ (g i : ℕ) (us : List Unmatched) (found : AreUnmatchedBefore s g i us) where
    -- an item that has none
    pub item_without : ((u : Unmatched) → IsUnmatchedEntry s u → u.event.at ≢ record { group = g; item = i }) → AreUnmatchedBefore s g (i + 1) us
    item_without none = listed_same UnmatchedBelow (Found g i) (Found g (i + 1)) us found (λ u p. (p.0, before_more g i u.event.at p.1)) (λ u p. (p.0, grind (arith, before_cases g i u.event.at p.1, none u p.0)))

    -- an item that has one
    pub item_with : (v : Unmatched) → v.event.at ≡ record { group = g; item = i } → IsUnmatchedEntry s v → AreUnmatchedBefore s g (i + 1) (us ++ v ∷ [])
    item_with v at unmatched = listed_push UnmatchedBelow (Found g i) (Found g (i + 1)) us v found
        (λ u p. grind (arith, p.1, at))
        (unmatched, grind (arith, at))
        (λ u p. (p.0, before_more g i u.event.at p.1))
        (λ u p. grind (arith, before_cases g i u.event.at p.1, one_acquire s u v p.0 unmatched, at, p.0))

    -- after its last item a group is done
    pub group_done : ArePrefixes s → size_of s g ≤ i → AreUnmatchedBefore s (g + 1) 0 us
    group_done prefixes all = listed_same UnmatchedBelow (Found g i) (Found (g + 1) 0) us found (λ u p. (p.0, grind (arith, p.1)))
        (λ u p. (p.0, grind (arith, p.1, item_of_event s prefixes u.event p.0.unmatched.event.0 p.0.unmatched.event.1)))

    -- and after the last group all are found
    pub all_found : ArePrefixes s → length s.sizes ≤ g → Lists UnmatchedBelow (IsUnmatchedEntry s) us
    all_found prefixes all = listed_same UnmatchedBelow (Found g i) (IsUnmatchedEntry s) us found (λ u p. p.0)
        (λ u p. (p, inl (let lt : u.event.at.group < g = omega (arith, group_of_event s prefixes u.event p.unmatched.event.0 p.unmatched.event.1) in lt)))
