-- The divergent instances, found one after the other.
use Rattle.gr_model.proofs.Common.{ℕ, ◌+◌, ◌<◌, ◌≤◌, List, [], ◌∷◌, ◌++◌, length, filter, filter_map, arith, gets, slice_get_past}
use Rattle.gr_order.specs.Types.{Event, Divergence, DivergenceCause}
use Rattle.gr_model.specs.Prelude.{IsDivergent, arrivals, mark_of, HasDivergenceCause, DivergenceBelow, IsDivergence, Streams, is_complete, is_of, list_of, size_of}
use Rattle.gr_model.proofs.Causes.{cause_diverges}
use Rattle.gr_model.proofs.ListsOfRecords.{length-filter_le}
use Rattle.gr_barriers.specs.Listings.{AreListedBefore, IsBefore}
use Rattle.gr_barriers.specs.Summaries.{NobodyCame}
use Rattle.gr_barriers.proofs.Listing.{group_done, instance_with, instance_without}
use Rattle.gr_barriers.proofs.Lists.{listed_append}
use Rattle.gr_lanes.specs.Remembered.{AreDecided, IsDecided, Remembered, decided_of, forgotten_of}

-- ---- how far instances go

few_marks : (xs : List Event) → length (filter_map mark_of xs) ≤ length xs
few_marks [] = omega arith
few_marks (x ∷ xs) = grind (arith, few_marks xs)

pub nobody_later : (s : Streams) (g k : ℕ) → NobodyCame (size_of s g) (arrivals s g k) → (n : ℕ) → k ≤ n → NobodyCame (size_of s g) (arrivals s g n)
nobody_later s g k none n le i within = grind (arith, gets, none i within)

pub nobody_past : (s : Streams) (g k : ℕ) → length (list_of s g) ≤ k → (n : ℕ) → k ≤ n → NobodyCame (size_of s g) (arrivals s g n)
nobody_past s g k past n le i within = grind (arith, few_marks (filter (is_of i) (list_of s g)), length-filter_le (is_of i) (list_of s g), slice_get_past)

-- ---- the list

module _ (s : Streams) (g k : ℕ) (ds : List Divergence) (found : AreListedBefore (IsDivergence s) g k ds) where
  pub found_without : ¬ IsDivergent s g k → AreListedBefore (IsDivergence s) g (k + 1) ds
  found_without = instance_without (IsDivergence s) (λ h. is_complete (list_of s h)) (size_of s) (arrivals s) (λ d is. is.cause) g k ds found

  pub found_with : g < length s.sizes → (c : DivergenceCause) → HasDivergenceCause (is_complete (list_of s g)) (size_of s g) (arrivals s g k) c → AreListedBefore (IsDivergence s) g (k + 1) (ds ++ record { group = g; instance = k; cause = c } ∷ [])
  found_with there c cause = instance_with (IsDivergence s) (λ h. is_complete (list_of s h)) (size_of s) (arrivals s) (λ d is. is.cause) g k ds found c cause
      (record { group = there; divergent = cause_diverges (is_complete (list_of s g)) (size_of s g) (arrivals s g k) c cause; cause = cause })

  pub found_turn : ((n : ℕ) → k ≤ n → NobodyCame (size_of s g) (arrivals s g n)) → AreListedBefore (IsDivergence s) (g + 1) 0 ds
  found_turn = group_done (IsDivergence s) (λ h. is_complete (list_of s h)) (size_of s) (arrivals s) (λ d is. is.cause) g k ds found

-- those of the group that are forgotten are kept
pub decided_found : (r : Remembered) → AreDecided r → (g : ℕ) (ds : List Divergence) → AreListedBefore (IsDivergence r.streams) g 0 ds → AreListedBefore (IsDivergence r.streams) g (forgotten_of r g) (ds ++ decided_of r g)
decided_found r decided g ds found = listed_append DivergenceBelow (λ d. IsDivergence r.streams d × IsBefore g 0 d) (IsDecided r g) (λ d. IsDivergence r.streams d × IsBefore g (forgotten_of r g) d) ds (decided_of r g) found (decided.lists g)
    (λ d e p q. grind arith)
    (λ d p. grind arith)
    (λ d q. grind arith)
    (λ d p. grind arith)
