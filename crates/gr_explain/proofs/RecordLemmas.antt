-- Where the records of each item are, and the events that they are.
use Rattle.gr_model.proofs.Common.{◌≡◌, ◌+◌, ◌<◌, ◌≤◌, ℕ, zero, suc, Bool, true, cond, List, [], ◌∷◌, ◌++◌, Option, Some, None, append-nil, arith, ap, filter, get_or, length, refl, slice_get, sym, take, ◌∙◌, ◌⊎◌, subst, inl, inr, ⊎_elim, ◌==◌, not, HoldsAt, MatchOption, Bor, option_copied, and_parts, cases_lt, eqb-true, slice_get-get_or, slice_get_past, get_or_past, length-take-le, take_more}
use Rattle.gr_explain.specs.Types.{Event, EventId}
use Rattle.gr_model.specs.Prelude.{is_end, AreGood, Streams, event_at, is_of, list_of, places_from, size_of}
use Rattle.gr_model.proofs.Places.{places_from-append}
use Rattle.gr_explain.specs.Records.{AreIndicesOf, IsIndexOf}

-- ---- what passes a test, and its places

module _ {X : Type 0} (test : X → Bool) where
  -- an element that passes and its place, or neither
  abbrev pub AreAt : ℕ → List X → Option ℕ → Option X → Type 0
  AreAt i xs place element = ((place ≡ None) × (element ≡ None)) ⊎ ((p : ℕ) × (x : X) × (place ≡ Some (i + p)) × (element ≡ Some x) × (slice_get xs p ≡ Some x) × (test x ≡ true))

  later : (i : ℕ) (x : X) (xs : List X) (place : Option ℕ) (element : Option X) → AreAt (suc i) xs place element → AreAt i (x ∷ xs) place element
  later i x xs place element (inl none) = inl none
  later i x xs place element (inr (p, y, at, is, there, passes)) = inr (suc p, y, at ∙ ap Some (omega arith), is, there, passes)

  pub place_at : (i : ℕ) (xs : List X) (k : ℕ) → AreAt i xs (slice_get (places_from test i xs) k) (slice_get (filter test xs) k)
  place_at i [] k = inl (refl, refl)
  place_at i (x ∷ xs) zero =
      let here : test x ≡ true → AreAt i (x ∷ xs) (Some i) (Some x) = λ t. inr (0, x, ap Some (omega arith), refl, refl, t) in
      grind (arith, here, later i x xs _ _ (place_at (suc i) xs 0))
  place_at i (x ∷ xs) (suc k) = grind (arith, later i x xs _ _ (place_at (suc i) xs k), later i x xs _ _ (place_at (suc i) xs (suc k)))

-- an item that a group does not have has no records
none_of_others : (items item : ℕ) (list : List Event) (k : ℕ) → AreGood items list → items ≤ item → slice_get (places_from (is_of item) 0 list) k ≡ None
none_of_others items item list k good past = ⊎_elim
    (λ none. none.0)
    (λ h. absurd (omega (arith, past, eqb-true h.1.item item (and_parts (h.1.item == item) (not (is_end h.1)) h.5).0, (good h.0 h.1 h.4).0.0)))
    (place_at (is_of item) 0 list k)

-- ---- one record more

pub index_more : (items k : ℕ) (list : List Event) (y : Event) (old new : List (List ℕ)) → k < length list → y ≡ get_or list k y → IsIndexOf items (take k list) old → length new ≡ length old → ((i : ℕ) → i < length old → get_or new i [] ≡ cond (is_of i y) (get_or old i [] ++ k ∷ []) (get_or old i [])) → IsIndexOf items (take (k + 1) list) new
index_more items k list y old new lt here index count each = record {
  count = count ∙ index.count;
  each = λ i within.
      let before : get_or old i [] ≡ places_from (is_of i) 0 (take k list) = index.each i within in
      let next = each i (omega (arith, within, index.count)) in
      let front : take (k + 1) list ≡ take k list ++ y ∷ [] = take_more list k y lt ∙ ap (λ (x : Event). take k list ++ x ∷ []) (sym here) in
      let seam = places_from-append (is_of i) 0 (take k list) (y ∷ []) in
      let end : length (take k list) ≡ k = length-take-le k list (omega (arith, lt)) in
      rw front (grind (arith, next, before, seam, end, append-nil));
}

-- what is read of a list at a place
pub read_is : {X : Type 0} (list : List X) (p : ℕ) (o : Option (Bor X)) → MatchOption o (length list ≤ p) (λ x. (p < length list) × HoldsAt (λ y. x.now ≡ y) list p) → option_copied o ≡ slice_get list p
read_is list p None past = sym (slice_get_past list p past)
read_is list p (Some x) read = ap Some (read.1 x.now) ∙ sym (slice_get-get_or list p x.now read.0)

-- ---- the event that a place is

module _ (s : Streams) (indices : List (List (List ℕ))) (are : AreIndicesOf s indices) (e : EventId) where
  abbrev own : List Event
  own = list_of s e.at.group

  module _ (index : List (List ℕ)) (lt : e.at.group < length indices) (is : get_or indices e.at.group [] ≡ index) where
    there : e.at.group < length s.sizes
    there = omega (arith, lt, are.all.count)

    of_group : IsIndexOf (size_of s e.at.group) own index
    of_group = subst (IsIndexOf (size_of s e.at.group) own) is (are.all.each e.at.group there)

    same_place : slice_get (get_or index e.at.item []) e.index ≡ slice_get (places_from (is_of e.at.item) 0 own) e.index
    same_place = ⊎_elim
        (λ within. ap (λ (l : List ℕ). slice_get l e.index) (of_group.each e.at.item within))
        (λ past. ap (λ (l : List ℕ). slice_get l e.index) (get_or_past index e.at.item [] (omega (arith, past, of_group.count))) ∙ sym (none_of_others (size_of s e.at.group) e.at.item own e.index (are.accepted.each e.at.group there).good past))
        (cases_lt e.at.item (size_of s e.at.group))

    pub none_without_place : slice_get (get_or index e.at.item []) e.index ≡ None → event_at s e ≡ None
    none_without_place none = grind (arith, same_place, place_at (is_of e.at.item) 0 own e.index)

    pub found_at_place : (p : ℕ) → slice_get (get_or index e.at.item []) e.index ≡ Some p → slice_get own p ≡ event_at s e
    found_at_place p some = grind (arith, same_place, place_at (is_of e.at.item) 0 own e.index)
