-- What a search keeps of the accesses to a word, after one more.
use Rattle.gr_model.proofs.Common.{arith, ◌≡◌, ◌≢◌, ◌⊎◌, ◌↔◌, true, false, Contains, ℕ, ◌<◌, List, [], ◌∷◌, ◌++◌, length, get_or, slice_set, Some, refl, sym, ap, ◌∙◌, inl, inr, ⊎_elim, Contains-append_left, Contains-push, Contains-push_cases}
use Rattle.gr_explain.specs.Types.{EventId, Word, Class}
use Rattle.gr_explain.specs.declared.search.Search.{Search}
use Rattle.gr_model.specs.Prelude.{Pair}
use Rattle.gr_shadow.specs.Clashes.{ClockedAccess, event_of}
use Rattle.gr_explain.specs.ClashPairs.{IsClashPair}
use Rattle.gr_explain.specs.LeastRaces.{IsLeastOf}
use Rattle.gr_explain.specs.Search.{IsPairOf, IsSeen, IsSeenMore, StandsFor}
use Rattle.gr_explain.specs.Seen.{IsAmong, IsPairWith, SeenList}
use Rattle.gr_explain.proofs.ClashLemmas.{clash_added, clash_was, new_is_of, of_cases, still_of, still_pair}
use Rattle.gr_explain.proofs.Lists.{set_has, set_still, set_was}
use Rattle.gr_explain.proofs.PairOrder.{least_same, least_then}
use Rattle.gr_explain.proofs.SeenLemmas.{Items}

-- ---- the lists of the classes

-- where an event is put into a list, the other lists stay
put_in : (old new : List SeenList) (before : Items) (after : SeenList) (event : EventId) (class : Class) → after.class ≡ class → ((e : EventId) → IsAmong after.items e ↔ ((e ≡ event) ⊎ IsAmong before e)) → Contains new after → ((e : EventId) → IsAmong before e → IsSeen old e class) → ((l : SeenList) → Contains new l → (after ≡ l) ⊎ Contains old l) → ((l : SeenList) → Contains old l → ((l.class ≡ class) × (before ≡ l.items)) ⊎ Contains new l) → IsSeenMore old event class new
put_in old new before after event class is among has seen_before was still e c = (
  λ (seen : IsSeen new e c). ⊎_elim
      (λ (here : after ≡ seen.list).
      let class_is : class ≡ c = sym is ∙ (ap (λ (l : SeenList). l.class) here ∙ seen.class) in
      ⊎_elim (λ now. inl (now, sym class_is)) (λ earlier. inr (rw class_is at (seen_before e earlier))) ((among e).0 (rw (← here) at seen.among)))
      (λ there. inr (record { list = seen.list; there = there; class = seen.class; among = seen.among }))
      (was seen.list seen.there),
  ⊎_elim
      (λ now. record { list = after; there = has; class = is ∙ sym now.1; among = (among e).1 (inl now.0) })
      (λ (seen : IsSeen old e c). ⊎_elim
      (λ here. record { list = after; there = has; class = is ∙ (sym here.0 ∙ seen.class); among = (among e).1 (inr (rw here.1 seen.among)) })
      (λ there. record { list = seen.list; there = there; class = seen.class; among = seen.among })
      (still seen.list seen.there)),
)

-- where the list of its class has it now
pub put_in_list : (classes : List SeenList) (place : ℕ) (before after : SeenList) (event : EventId) (class : Class) → place < length classes → before ≡ get_or classes place before → after.class ≡ class → after.class ≡ before.class → ((e : EventId) → IsAmong after.items e ↔ ((e ≡ event) ⊎ IsAmong before.items e)) → IsSeenMore classes event class (slice_set classes place after)
put_in_list classes place before after event class lt is_before is same among =
    put_in classes (slice_set classes place after) before.items after event class is among (set_has classes place after lt)
    (λ e was. record { list = before; there = (place, lt, sym is_before); class = sym same ∙ is; among = was }) (set_was classes place after)
    (λ l there. grind (arith, set_still classes place after before l there))

-- where a list of its class is new
pub put_behind : (classes : List SeenList) (after : SeenList) (event : EventId) (class : Class) → after.class ≡ class → ((e : EventId) → IsAmong after.items e ↔ ((e ≡ event) ⊎ IsAmong [] e)) → IsSeenMore classes event class (classes ++ after ∷ [])
put_behind classes after event class is among =
    put_in classes (classes ++ after ∷ []) [] after event class is among (Contains-push classes after) (λ e none. absurd (let no : false ≡ true = none in cc))
    (λ l there. grind (arith, Contains-push_cases classes after l there)) (λ l there. inr (Contains-append_left classes (after ∷ []) l there))

-- ---- the pairs of a later access with those of the first lists

module _ (classes : List SeenList) (d : SeenList) (y : ClockedAccess) (pair : Pair) where
  pub more_pairs : IsPairOf classes y pair ⊎ IsPairWith d y pair → IsPairOf (classes ++ d ∷ []) y pair
  more_pairs (inl of) = record { list = of.list; there = Contains-append_left classes (d ∷ []) of.list of.there; pair_with = of.pair_with }
  more_pairs (inr with) = record { list = d; there = Contains-push classes d; pair_with = with }

  pub pairs_before : IsPairOf (classes ++ d ∷ []) y pair → IsPairOf classes y pair ⊎ IsPairWith d y pair
  pairs_before of = ⊎_elim
      (λ was. inl (record { list = of.list; there = was; pair_with = of.pair_with }))
      (λ (last : d ≡ of.list). inr (rw last of.pair_with))
      (Contains-push_cases classes d of.list of.there)

-- ---- one more access

-- an access to another word changes nothing
pub other_stands : {Z : Type 0} (w : Word) (accesses : List ClockedAccess) (y : ClockedAccess) → y.word ≢ w → (search : Search Z) → StandsFor w accesses search → StandsFor w (accesses ++ y ∷ []) search
other_stands w accesses y other search stands = record {
  seen = λ e c. (λ seen. still_of w accesses y e c ((stands.seen e c).0 seen), λ of. (stands.seen e c).1 (⊎_elim (λ was. was) (λ last. absurd (other last.0)) (of_cases w accesses y e c of)));
  least = least_same (IsClashPair w accesses) (IsClashPair w (accesses ++ y ∷ [])) search.least (still_pair w accesses y)
      (λ pair is. record { earlier = is.earlier; later = is.later; clash = ⊎_elim (λ was. was) (λ new. absurd (other new.word)) (clash_was w accesses y is.earlier is.later is.clash); turned = is.turned; below = is.below })
      stands.least;
}

module _ (accesses : List ClockedAccess) (y : ClockedAccess) {Z : Type 0} (old : Search Z) (stands : StandsFor y.word accesses old) where
  -- the pair of the access with one of before is a clash
  pair_is_clash : (pair : Pair) → IsPairOf old.classes.items y pair → IsClashPair y.word (accesses ++ y ∷ []) pair
  pair_is_clash pair of =
      let clash = clash_added accesses y of.pair_with.earlier of.list.class ((stands.seen of.pair_with.earlier of.list.class).0 (record { list = of.list; there = of.there; class = refl; among = of.pair_with.clashing.among })) of.pair_with.clashing.clash in
      record { earlier = of.pair_with.earlier; later = event_of y; clash = clash; turned = of.pair_with.turned; below = of.pair_with.below }

  -- a clash is one of before, or the pair of the access with one of before
  clash_cases : (pair : Pair) → IsClashPair y.word (accesses ++ y ∷ []) pair → IsClashPair y.word accesses pair ⊎ IsPairOf old.classes.items y pair
  clash_cases pair is = ⊎_elim
      (λ was. inl (record { earlier = is.earlier; later = is.later; clash = was; turned = is.turned; below = is.below }))
      (λ new.
      let seen = (stands.seen is.earlier new.class).1 new.of in
      let clash = new.clash in
      inr (record { list = seen.list; there = seen.there; pair_with = record { earlier = is.earlier; clashing = record { among = seen.among; clash = rw seen.class clash }; turned = rw new.event is.turned; below = is.below } }))
      (clash_was y.word accesses y is.earlier is.later is.clash)

  pub access_stands : (new : Search Z) → IsLeastOf (λ p. (old.least ≡ Some p) ⊎ IsPairOf old.classes.items y p) new.least → IsSeenMore old.classes.items (event_of y) y.class new.classes.items → StandsFor y.word (accesses ++ y ∷ []) new
  access_stands new least more = record {
    seen = λ e c. (
      λ seen. ⊎_elim (λ here. new_is_of accesses y e c (sym here.0) (sym here.1)) (λ was. still_of y.word accesses y e c ((stands.seen e c).0 was)) ((more e c).0 seen),
      λ of. (more e c).1 (⊎_elim (λ was. inr ((stands.seen e c).1 was)) (λ last. inl (sym last.1, sym last.2)) (of_cases y.word accesses y e c of)),
    );
    least =
        least_same (λ p. IsClashPair y.word accesses p ⊎ IsPairOf old.classes.items y p) (IsClashPair y.word (accesses ++ y ∷ [])) new.least
        (λ p h. ⊎_elim (still_pair y.word accesses y p) (pair_is_clash p) h) clash_cases
        (least_then (IsClashPair y.word accesses) (IsPairOf old.classes.items y) old.least new.least stands.least least);
  }
