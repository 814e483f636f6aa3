-- If a rule is relaxed, lists that are accepted still are.
use Rattle.gr_model.proofs.Common.{◌≡◌, ℕ, ◌<◌, ◌≤◌, ◌==◌, ◌&&◌, Bool, true, List, [], ◌∷◌, All, filter, length, map, Option, Some, None, option_and_then, option_map, slice_get, suc, refl, sym, ap, ◌∙◌, subst, arith, not, list_all, nat_tests, and_parts, slice_get-map, ext_get_or, length-map}
use Rattle.std.proofs.Math.ListN.{get_or-map}
use Rattle.gr_races.specs.Types.{Event, EventId, Kind, Word, Race, Relaxation}
use Rattle.gr_model.specs.declared.limits.TheConstants.{MOST_RECORDS}
use Rattle.gr_model.specs.Prelude.{event_word, is_acquire_kind, word_if_access, word_in, IsEventOk, is_end_kind, AreAccepted, AreGood, IsAccepted, IsGoodAt, Streams, event_at, is_complete, is_of, list_of, size_of, word_at}
use Rattle.gr_explain.specs.declared.judging.Judgement.TheVariants.{Race as AsRace}
use Rattle.gr_explain.specs.Judged.{AreAccesses, AreJudgements}
use Rattle.gr_races.specs.Causes.{IsPairOf}
use Rattle.gr_races.specs.Relaxing.{is_relaxed, relaxed, relaxed_event, relaxed_kind}

-- ---- one record

same_kind : (r : Relaxation) (k : Kind) → (is_end_kind (relaxed_kind r k) ≡ is_end_kind k) × (is_acquire_kind (relaxed_kind r k) ≡ is_acquire_kind k) × ((w : Word) → word_if_access (relaxed_kind r k) w ≡ word_if_access k w) × (is_relaxed r k ≡ true → relaxed_kind r k ≡ k)
same_kind r k = (grind arith, grind arith, λ w. grind arith, λ is. grind (arith, nat_tests))

still_event : (r : Relaxation) (items : ℕ) (x : Event) → IsEventOk x items → IsEventOk (relaxed_event r x) items
still_event r items x ok = (ok.0, grind (arith, same_kind r x.kind), grind arith)

-- ---- one list

still_complete : (r : Relaxation) (xs : List Event) → is_complete (map (relaxed_event r) xs) ≡ is_complete xs
still_complete r [] = refl
still_complete r (x ∷ []) = (same_kind r x.kind).0
still_complete r (x ∷ y ∷ xs) = still_complete r (y ∷ xs)

still_good : (r : Relaxation) (items : ℕ) (list : List Event) → AreGood items list → AreGood items (map (relaxed_event r) list)
still_good r items list good p x at =
    by (slice_get list p) refl (sym (slice_get-map (relaxed_event r) list p) ∙ at)
  where
    by : (o : Option Event) → slice_get list p ≡ o → option_map (relaxed_event r) o ≡ Some x → IsGoodAt items (map (relaxed_event r) list) p x
    by None here there = cc
    by (Some y) here there =
        let same : relaxed_event r y ≡ x = cc in
        let ok = good p y here in
        subst (IsGoodAt items (map (relaxed_event r) list) p) same (still_event r items y ok.0, λ end. ok.1 (sym (same_kind r y.kind).0 ∙ end) ∙ sym (length-map list (relaxed_event r)))

still_accepted : (r : Relaxation) (items : ℕ) (list : List Event) → IsAccepted items list → IsAccepted items (map (relaxed_event r) list)
still_accepted r items list accepted = record {
  few = subst (λ n. n ≤ MOST_RECORDS) (sym (length-map list (relaxed_event r))) accepted.few;
  good = still_good r items list accepted.good;
  ended = still_complete r list ∙ accepted.ended;
}

-- ---- all lists

relaxed_list_of : (r : Relaxation) (s : Streams) (g : ℕ) → list_of (relaxed r s) g ≡ map (relaxed_event r) (list_of s g)
relaxed_list_of r s g = get_or-map (map (relaxed_event r)) s.lists g []

pub still_all_accepted : (r : Relaxation) (s : Streams) → AreAccepted s → AreAccepted (relaxed r s)
still_all_accepted r s accepted = record {
  shape = accepted.shape;
  count = length-map s.lists (map (relaxed_event r)) ∙ accepted.count;
  each = λ g lt. subst (IsAccepted (size_of s g)) (sym (relaxed_list_of r s g)) (still_accepted r (size_of s g) (list_of s g) (accepted.each g lt));
}

-- ---- what an event accesses

filtered : {X : Type 0} (f : X → X) (test : X → Bool) → ((x : X) → test (f x) ≡ test x) → (xs : List X) → filter test (map f xs) ≡ map f (filter test xs)
filtered f test same [] = refl
filtered f test same (x ∷ xs) = grind (arith, same x, filtered f test same xs)

-- an event accesses the word that it accessed
pub still_word : (r : Relaxation) (s : Streams) (e : EventId) → word_at (relaxed r s) e ≡ word_at s e
still_word r s e =
    let same = filtered (relaxed_event r) (is_of e.at.item) (λ x. ap (λ ended. (x.item == e.at.item) && not ended) (same_kind r x.kind).0) (list_of s e.at.group) in
    rw (relaxed_list_of r s e.at.group) (rw same (rw (slice_get-map (relaxed_event r) (filter (is_of e.at.item) (list_of s e.at.group)) e.index) (of_event (event_at s e))))
  where
    of_event : (o : Option Event) → option_and_then (event_word e.at.group) (option_map (relaxed_event r) o) ≡ option_and_then (event_word e.at.group) o
    of_event None = refl
    of_event (Some x) = (same_kind r x.kind).2 (word_in x.space e.at.group x.word)

-- so the two of a racing pair are accesses still
pub still_accesses : (r : Relaxation) (s : Streams) (pair : Race) → IsPairOf s pair → AreAccesses (relaxed r s) pair
still_accesses r s pair race =
    let may_race = race.race.may_race in
    record { first = (pair.word, still_word r s pair.first ∙ may_race.word_first); second = (pair.word, still_word r s pair.second ∙ may_race.word_second) }

-- ---- if a rule changes nothing

-- a list of such records is the same
pub same_list : (r : Relaxation) (xs : List Event) → list_all (λ x. is_relaxed r x.kind) xs ≡ true → map (relaxed_event r) xs ≡ xs
same_list r [] all = refl
same_list r (x ∷ xs) all =
    let parts = and_parts (is_relaxed r x.kind) (list_all (λ y. is_relaxed r y.kind) xs) all in
    rw ((same_kind r x.kind).3 parts.0, same_list r xs parts.1) refl

-- and a launch of such lists
pub same_launch : (r : Relaxation) (s : Streams) → ((k : ℕ) → k < length s.lists → map (relaxed_event r) (list_of s k) ≡ list_of s k) → relaxed r s ≡ s
same_launch r s each =
    let relax : List Event → List Event = map (relaxed_event r) in
    let same : map relax s.lists ≡ s.lists = ext_get_or [] (map relax s.lists) s.lists (length-map s.lists relax) (λ k lt. relaxed_list_of r s k ∙ each k (omega (arith, lt, length-map s.lists relax))) in
    λ i. record { sizes = s.sizes; lists = same i }

-- each race still is one
pub all_still_race : (s : Streams) (r : Relaxation) → relaxed r s ≡ s → (races : List Race) → All (IsPairOf s) races → AreJudgements (relaxed r s) races (map (λ race. AsRace) races)
all_still_race s r same [] all = tt
all_still_race s r same (x ∷ xs) all =
    let pair : IsPairOf s x = all 0 x (omega arith) in
    (rw same ((pair.first, pair.second), pair.race), all_still_race s r same xs (λ k d lt. all (suc k) d (omega (arith, lt))))
