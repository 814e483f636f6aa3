-- Instances, by the barriers that are found.
use Rattle.gr_model.proofs.Common.{◌≡◌, ℕ, zero, suc, ◌+◌, ◌<◌, ◌≤◌, Bool, true, List, [], ◌∷◌, Option, Some, None, slice_get, filter, filter_map, is_some, false, ◌⊎◌, refl, sym, ◌∙◌, inl, inr, arith, true≢false, MatchOption}
use Rattle.gr_model.specs.declared.event.Event.{Event}
use Rattle.gr_model.specs.Prelude.{IsDivergent, arrivals, is_barrier, mark_of, Arrivals, IsDivergentOf, Mark, Streams, is_complete, list_of, places_from, size_of, trace_of}
use Rattle.gr_model.proofs.Places.{filter_map-place, places_from-there}
use Rattle.gr_lanes.proofs.IndexLemmas.{record_place}
use Rattle.gr_lanes.specs.Instances.{HasCome}
use Rattle.gr_lanes.specs.Kept.{NoneDiffers, of_item}

-- the k-th barrier of a list gives the k-th mark
abbrev pub GivesMark : ℕ → List Event → ℕ → ℕ → Type 0
GivesMark i xs k n = (j : ℕ) × (x : Event) × (n ≡ i + j) × (slice_get xs j ≡ Some x) × (slice_get (filter_map mark_of xs) k ≡ mark_of x) × (is_some (mark_of x) ≡ true)

-- the k-th barrier has the k-th mark
pub record_mark : (xs : List Event) (k : ℕ) → MatchOption (slice_get (filter is_barrier xs) k) (slice_get (filter_map mark_of xs) k ≡ None) (λ x. (slice_get (filter_map mark_of xs) k ≡ mark_of x) × (is_some (mark_of x) ≡ true))
record_mark [] k = refl
record_mark (x ∷ xs) zero = grind (arith, record_mark xs zero)
record_mark (x ∷ xs) (suc k) = grind (arith, record_mark xs k, record_mark xs (suc k))

pub barrier_mark : (i : ℕ) (xs : List Event) (k n : ℕ) → slice_get (places_from is_barrier i xs) k ≡ Some n → GivesMark i xs k n
barrier_mark i xs k n e =
    let there = places_from-there is_barrier i xs k n e in
    let mark = rw (record_place is_barrier i xs k there.0 (rw there.2 at e) ∙ there.3) at (record_mark xs k) in
    (there.0, there.1, there.2, there.3, mark.0, mark.1)

-- ---- instances

pub some_mark : (o : Option Mark) → is_some o ≡ true → (a : Mark) × (o ≡ Some a)
some_mark None e = absurd (true≢false (sym e))
some_mark (Some a) e = (a, refl)

-- what is divergent by its first items is so by more of them
pub diverges_still : (ended : Bool) (n m : ℕ) (arrived : Arrivals) → n ≤ m → IsDivergentOf ended n arrived → IsDivergentOf ended m arrived
diverges_still ended n m arrived le (inl (i, j, a, b, at_i, at_j, differ)) = inl (i, j, a, b, (omega (arith, le, at_i.0), at_i.1), (omega (arith, le, at_j.0), at_j.1), differ)
diverges_still ended n m arrived le (inr (whole, (i, j, a, at_i, within, lacks))) = inr (whole, (i, j, a, (omega (arith, le, at_i.0), at_i.1), omega (arith, le, within), lacks))

-- where none differs
module _ (s : Streams) (g n : ℕ) (none : NoneDiffers s g n) where
  -- an item came with one mark, or it did not come, and more may
  came_with : (i : ℕ) → i < size_of s g → ((arrivals s g n i ≡ mark_of (of_item i none.0)) × (is_some (mark_of (of_item i none.0)) ≡ true)) ⊎ ((is_complete (list_of s g) ≡ false) × (arrivals s g n i ≡ None))
  came_with i within = grind (arith, none.1 i within, record_mark (trace_of s (record { group = g; item = i })) n, filter_map-place mark_of 0 (trace_of s (record { group = g; item = i })) n)

  -- so the instance is not divergent
  pub not_divergent : ¬ IsDivergent s g n
  not_divergent (inl (i, j, a, b, at_i, at_j, differ)) = grind (arith, came_with i at_i.0, came_with j at_j.0)
  not_divergent (inr (whole, (i, j, a, at_i, within, lacks))) = grind (arith, came_with j within)

  -- and who came, came with the mark of one that came
  pub came_alike : (x : Event) → HasCome s g n x → (i : ℕ) → i < size_of s g → (arrivals s g n i ≡ mark_of x) ⊎ (arrivals s g n i ≡ None)
  came_alike x come i within = grind (arith, came_with i within, came_with come.item come.within, come.came, come.barrier)
