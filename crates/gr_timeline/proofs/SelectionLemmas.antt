-- The elements of a list for which something holds, and the lines of entries, as the list grows.
use Rattle.gr_model.proofs.Common.{◌≡◌, ◌≢◌, ◌∙◌, ℕ, zero, suc, Bool, true, false, cond, List, [], ◌∷◌, ◌++◌, Some, ap, arith, filter, get_or, length, map, refl, slice_get, slice_get-get_or, sym}
use Rattle.std.specs.List.{AllPairs}
use Rattle.std.proofs.lemmas.List.Kept.{AllPairs-filter}
use Rattle.gr_steps.proofs.EventRecords.{filter-there}
use Rattle.gr_timeline.specs.Types.{EventId, Entry}
use Rattle.gr_timeline.specs.Histories.{events_of, lines_below}
use Rattle.gr_timeline.specs.Selections.{AreThose}

-- what passes a test is among those that do
filter_has : {X : Type 0} (test : X → Bool) (xs : List X) (i : ℕ) (x : X) → slice_get xs i ≡ Some x → test x ≡ true → (p : ℕ) × (slice_get (filter test xs) p ≡ Some x)
filter_has test [] i x at passes = cc
filter_has test (y ∷ xs) zero x at passes = let same : y ≡ x = cc in (0, rw (same, passes) refl)
filter_has {X} test (y ∷ xs) (suc i) x at passes =
    let p = filter_has test xs i x at passes in
    elim (test y) as (λ b. (q : ℕ) × (slice_get (cond b (y ∷ filter test xs) (filter test xs)) q ≡ Some x)) [ true ↦ (suc p.0, p.1) | false ↦ p ]

module _ {X : Type 0} (P : X → Type 0) (xs those : List X) (are : AreThose P xs those) where
  -- just the elements of the list for which it holds are among those
  pub those_within : (i : ℕ) (x : X) → slice_get those i ≡ Some x → (p : ℕ) × (slice_get xs p ≡ Some x) × P x
  those_within i x at = let h = filter-there are.test xs i x (rw are.are at at) in (h.0, h.1, (are.exact h.0 x h.1).0 h.2)

  pub those_have : (i : ℕ) (x : X) → slice_get xs i ≡ Some x → P x → (p : ℕ) × (slice_get those p ≡ Some x)
  those_have i x at holds = rw are.are (filter_has are.test xs i x at ((are.exact i x at).1 holds))

  -- if each element is there once, so is each of those
  pub those_once : ((p q : ℕ) (x : X) → slice_get xs p ≡ Some x → slice_get xs q ≡ Some x → p ≡ q) → AllPairs (λ x y. x ≢ y) those
  those_once once = rw are.are (AllPairs-filter (λ x y. x ≢ y) are.test xs (λ i j d before there same.
      let first = slice_get-get_or xs i d (omega (arith, before, there)) in
      absurd (omega (arith, before, once i j (get_or xs i d) first (slice_get-get_or xs j d there ∙ ap Some (sym same))))))

module _ {Z : Type 0} where
  -- the events of the lines are those of the entries
  pub events_below : (above : List EventId) (entries : List (Entry Z)) → events_of (lines_below above entries) ≡ map (λ x. x.event) entries
  events_below above [] = refl
  events_below above (x ∷ entries) = ap (λ l. x.event ∷ l) (events_below (above ++ x.event ∷ []) entries)

  pub length_below : (above : List EventId) (entries : List (Entry Z)) → length (lines_below above entries) ≡ length entries
  length_below above [] = refl
  length_below above (x ∷ entries) = ap suc (length_below (above ++ x.event ∷ []) entries)
