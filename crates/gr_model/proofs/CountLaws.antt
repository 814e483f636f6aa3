-- The counts of an event that is grounded stay where lists that are not complete grow.
use Rattle.gr_model.proofs.Common.{◌≡◌, ◌↔◌, ℕ, zero, suc, ◌+◌, ◌<◌, ◌≤◌, length, arith, length-append, slice_get_within}
use Rattle.gr_model.specs.Types.{Space, ItemId, EventId}
use Rattle.gr_model.specs.Prelude.{Streams, Grows, trace_of, IsEvent, Stage, IsNumberOf, Sees, IsCount}
use Rattle.gr_model.proofs.Descent.{below_before, stage_descends}
use Rattle.gr_model.proofs.GrowthLaws.{stage_event, trace_grows, before_grows, before_shrinks}

-- facts that agree below a bound hold there equally often
number_same : (P Q : ℕ → Type 0) (bound : ℕ) → ((k : ℕ) → k < bound → P k ↔ Q k) → (n : ℕ) → IsNumberOf P bound n ↔ IsNumberOf Q bound n
number_same P Q zero same n = (λ h. h, λ h. h)
number_same P Q (suc b) same n = grind (arith, same b, number_same P Q b (λ k lt. same k (omega arith)))

-- a fact that holds nowhere from a bound on holds as often below a greater bound
number_beyond : (P : ℕ → Type 0) (b more c : ℕ) → c ≡ more + b → ((k : ℕ) → b ≤ k → P k → ⊥) → (n : ℕ) → IsNumberOf P b n ↔ IsNumberOf P c n
number_beyond P b (suc more) (suc c) is none n = grind (arith, number_beyond P b more c (omega arith) none n)
number_beyond P b more c is none n = grind arith

module _ (s t : Streams) (grows : Grows s t) (m : Space) (f : EventId) (n : ℕ) (stage : Stage s n f) where
  seen_stays : (e : EventId) → Sees s m f e ↔ Sees t m f e
  seen_stays e = grind (arith, before_grows, before_shrinks)

  -- what a grounded event sees is an event
  seen_event : (e : EventId) → Sees s m f e → IsEvent s e
  seen_event e seen = grind (arith, stage_event, below_before s (Stage s) (stage_descends s) m e f, stage)

  module _ (j : ItemId) where
    abbrev event_of : ℕ → EventId
    event_of k = record { at = j; index = k }

    pub count_stays : (k : ℕ) → IsCount s m f j k ↔ IsCount t m f j k
    count_stays k =
        let more = trace_grows s t grows j in
        let longer : length (trace_of t j) ≡ length more.0 + length (trace_of s j) = grind (arith, more.1, length-append) in
        let beyond = number_beyond (λ i. Sees t m f (event_of i)) (length (trace_of s j)) (length more.0) (length (trace_of t j)) longer
        (λ i le seen. grind (arith, le, seen, seen_event (event_of i), seen_stays (event_of i), slice_get_within (trace_of s j) i)) k in
        let same = number_same _ _ (length (trace_of s j)) (λ i lt. seen_stays (event_of i)) k in
        (λ h. beyond.0 (same.0 h), λ h. same.1 (beyond.1 h))
