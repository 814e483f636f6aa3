-- What one record more makes of the index of each item.
use Rattle.gr_model.proofs.Common.{◌≡◌, ℕ, zero, suc, ◌+◌, ◌<◌, ◌≤◌, Bool, true, false, cond, List, [], ◌∷◌, ◌++◌, length, filter, Some, slice_get, get_or, is_some, refl, ap, ◌∙◌, arith, append-nil, IsTrue, nat_tests, common_steps, length_push, filter-append, gets, slice_get-get_or}
use Rattle.gr_model.specs.declared.event.Event.{Event}
use Rattle.gr_model.specs.declared.event.ItemId.{ItemId}
use Rattle.gr_model.specs.Prelude.{is_end, is_end_kind, IsPrefix, AreGood, Streams, trace_of, event_at, is_complete, is_of, place_of, places_from}
use Rattle.gr_model.proofs.ListsOfRecords.{length-filter_le}
use Rattle.gr_model.proofs.Places.{places_from-append, places_from-there}
use Rattle.gr_lanes.specs.Indices.{EndsCut, end_in, end_of, end_of_kind, index_of, record_of, taking, with_if, AreRising}

-- an element more at the end of a list
pub places_more : {X : Type 0} (test : X → Bool) (xs : List X) (x : X) → places_from test 0 (xs ++ x ∷ []) ≡ with_if (test x) (places_from test 0 xs) (length xs)
places_more test xs x = grind (arith, places_from-append, append-nil)

pub filter_more : {X : Type 0} (test : X → Bool) (xs : List X) (x : X) → filter test (xs ++ x ∷ []) ≡ with_if (test x) (filter test xs) x
filter_more test xs x = grind (arith, filter-append, append-nil)

pub trace_more : (list : List Event) (x : Event) (i : ℕ) → filter (is_of i) (list ++ x ∷ []) ≡ filter (is_of i) list ++ cond (is_of i x) (x ∷ []) []
trace_more list x i = filter-append (is_of i) list (x ∷ [])

pub length-places : {X : Type 0} (test : X → Bool) (n : ℕ) (xs : List X) → length (places_from test n xs) ≡ length (filter test xs)
length-places test n [] = refl
length-places test n (x ∷ xs) = grind (arith, length-places test (suc n) xs)

pub few-places : {X : Type 0} (test : X → Bool) (n : ℕ) (xs : List X) → length (places_from test n xs) ≤ length xs
few-places test n xs = omega (arith, length-places test n xs, length-filter_le test xs)

-- the record is none of the item's
pub index_other : (list : List Event) (x : Event) (i : ℕ) → is_of i x ≡ false → index_of (list ++ x ∷ []) i ≡ index_of list i
index_other list x i other = rw (filter_more (is_of i) list x, other)

-- the record is the item's
pub index_here : (list : List Event) (x : Event) → index_of (list ++ x ∷ []) x.item ≡ taking (index_of list x.item) x
index_here list x = grind (arith, nat_tests, filter_more, places_more, length_push)

-- ---- what is read by an index

-- an item that the group lacks has no events
none_of : (i : ℕ) (l : List Event) → ((p : ℕ) (x : Event) → slice_get l p ≡ Some x → x.item < i) → filter (is_of i) l ≡ []
none_of i [] all = refl
none_of i (x ∷ l) all = grind (arith, nat_tests, all 0 x refl, none_of i l (λ p y at. all (suc p) y at))

pub no_trace : (n : ℕ) (list : List Event) → IsPrefix n list → (i : ℕ) → n ≤ i → filter (is_of i) list ≡ []
no_trace n list prefix i beyond = none_of i list (λ p x at. let ok = (prefix.good p x at).0.0 in omega arith)

at_least : {X : Type 0} (test : X → Bool) (i : ℕ) (xs : List X) (b : ℕ) → b < length (places_from test i xs) → i ≤ get_or (places_from test i xs) b 0
at_least test i xs b within =
    let place = places_from-there test i xs b (get_or (places_from test i xs) b 0) (slice_get-get_or (places_from test i xs) b 0 within) in omega (arith, place.2)

pub places_rise : {X : Type 0} (test : X → Bool) (i : ℕ) (xs : List X) → AreRising (places_from test i xs)
places_rise test i [] a b le within = absurd (omega arith)
places_rise test i (x ∷ xs) zero b le within = grind (arith, common_steps, at_least test (suc i) xs, places_rise test (suc i) xs)
places_rise test i (x ∷ xs) (suc a) zero le within = absurd (omega arith)
places_rise test i (x ∷ xs) (suc a) (suc b) le within = grind (arith, common_steps, places_rise test (suc i) xs)

-- ---- the records of releases and barriers

-- the k-th element that passes a test is the one at the k-th place
pub record_place : {X : Type 0} (test : X → Bool) (i : ℕ) (xs : List X) (k j : ℕ) → slice_get (places_from test i xs) k ≡ Some (i + j) → slice_get (filter test xs) k ≡ slice_get xs j
record_place test i [] k j e = cc
record_place test i (x ∷ xs) zero zero e = grind (arith, places_from-there test (suc i) xs zero i)
record_place test i (x ∷ xs) zero (suc j) e = grind (arith, record_place test (suc i) xs zero j)
record_place test i (x ∷ xs) (suc k) zero e = grind (arith, places_from-there test (suc i) xs k i, places_from-there test (suc i) xs (suc k) i)
record_place test i (x ∷ xs) (suc k) (suc j) e = grind (arith, record_place test (suc i) xs k j, record_place test (suc i) xs (suc k) j)

pub record_is : (s : Streams) (test : Event → Bool) (i : ItemId) (k n : ℕ) → place_of s test i k ≡ Some n → record_of s test i k ≡ event_at s (record { at = i; index = n })
record_is s test i k n place = record_place test 0 (trace_of s i) k n (place ∙ ap Some (omega arith))

-- ---- ends

-- a list with an end is whole
pub end_is_complete : (list : List Event) → is_some (end_in list) ≡ is_complete list
end_is_complete [] = refl
end_is_complete (x ∷ []) = grind arith
end_is_complete (x ∷ y ∷ xs) = end_is_complete (y ∷ xs)

-- the last record says it
pub end_pushed : (list : List Event) (x : Event) → end_in (list ++ x ∷ []) ≡ end_of x
end_pushed [] x = refl
end_pushed (y ∷ []) x = refl
end_pushed (y ∷ z ∷ xs) x = end_pushed (z ∷ xs) x

end_in-at : (xs : List Event) (p : ℕ) (x : Event) → slice_get xs p ≡ Some x → p + 1 ≡ length xs → end_in xs ≡ end_of x
end_in-at [] p x e last = cc
end_in-at (y ∷ []) p x e last = grind (arith, gets)
end_in-at (y ∷ z ∷ xs) zero x e last = absurd (omega arith)
end_in-at (y ∷ z ∷ xs) (suc p) x e last = end_in-at (z ∷ xs) p x e (omega arith)

-- a list that is not whole has no end, with one more record that is none too
pub none_more : (list : List Event) (x : Event) → ¬ IsTrue (is_complete list) → is_end x ≡ false → end_in (list ++ x ∷ []) ≡ end_in list
none_more list x open_list isnt = grind (arith, end_pushed list x, end_is_complete list)

-- ---- cut streams

-- the last record says whether a stream was cut, since an end has no other place
pub cut_if_end : (list : List Event) → end_in list ≡ Some true → EndsCut list
cut_if_end [] e = cc
cut_if_end (x ∷ []) e = (0, x, refl, grind arith)
cut_if_end (x ∷ y ∷ xs) e = let h = cut_if_end (y ∷ xs) e in (suc h.0, h.1, h.2, h.3)

pub end_if_cut : {size : ℕ} (list : List Event) → AreGood size list → EndsCut list → end_in list ≡ Some true
end_if_cut list good (p, y, at, kind) = end_in-at list p y at ((good p y at).1 (ap is_end_kind kind)) ∙ ap end_of_kind kind
