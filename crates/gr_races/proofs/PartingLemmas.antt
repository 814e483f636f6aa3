-- Where an event comes after its item's barrier of an instance.
use Rattle.gr_model.proofs.Common.{inl, inr, ◌≡◌, ◌⊎◌, ℕ, zero, suc, ◌+◌, ◌<◌, ◌≤◌, Bool, get_or, List, [], ◌∷◌, Some, slice_get, arith, subst, ⊎_elim, ◌↔◌, cases_lt, slice_get-get_or, slice_get_within}
use Rattle.gr_model.specs.declared.event.EventId.{EventId}
use Rattle.gr_model.specs.Prelude.{is_barrier, Streams, places_from, trace_of}
use Rattle.gr_steps.proofs.BarrierPlaces.{places_from-ordered}
use Rattle.gr_races.specs.Parting.{AreParted, HasDivergent, IsBehind, IsParting}

-- the k-th place of a list is not below k
place_at_least : {X : Type 0} (test : X → Bool) (i : ℕ) (xs : List X) (k p : ℕ) → slice_get (places_from test i xs) k ≡ Some p → i + k ≤ p
place_at_least test i [] k p at = grind arith
place_at_least test i (x ∷ xs) zero p at = grind (arith, place_at_least test (suc i) xs zero p)
place_at_least test i (x ∷ xs) (suc k) p at = grind (arith, place_at_least test (suc i) xs k p, place_at_least test (suc i) xs (suc k) p)

-- so the number of the instance is below the index of the event
pub number_below : (s : Streams) (e : EventId) (k : ℕ) → IsBehind s e k → k < e.index
number_below s e k behind = let far = place_at_least is_barrier 0 (trace_of s e.at) k behind.0 behind.1 in omega (arith, far, behind.2)

-- an event after an instance is after each earlier one
pub behind_before : (s : Streams) (e : EventId) (k m : ℕ) → k ≤ m → IsBehind s e m → IsBehind s e k
behind_before s e k m le behind = elim (cases_lt k m) [
  | inl lt ↦
      let places = places_from is_barrier 0 (trace_of s e.at) in
      let at = slice_get-get_or places k 0 (omega (arith, lt, slice_get_within places m behind.0 behind.1)) in
      let before = places_from-ordered is_barrier 0 (trace_of s e.at) k m (get_or places k 0) behind.0 lt at behind.1 in
      (get_or places k 0, at, omega (arith, before, behind.2))
  | inr ge ↦ let same : m ≡ k = omega (arith, ge, le) in subst (IsBehind s e) same behind
]

-- an event comes after so many of its item's barriers
abbrev pub CountsBehind : Streams → EventId → ℕ → Type 0
CountsBehind s e m = (k : ℕ) → k < m ↔ IsBehind s e k

module _ (s : Streams) (e f : EventId) (m n : ℕ) (of_e : CountsBehind s e m) (of_f : CountsBehind s f n) where
  is_parting : HasDivergent s e.at.group n m → (k : ℕ) × IsParting s k e f
  is_parting h = (h.0, record { behind = (of_e h.0).0 h.2; not_behind = λ is. let below = (of_f h.0).1 is in omega (arith, below, h.1); divergent = h.3 })

  parting_is : (k : ℕ) → IsParting s k e f → HasDivergent s e.at.group n m
  parting_is k is = (k, ⊎_elim (λ (lt : k < n). absurd (is.not_behind ((of_f k).0 lt))) (λ (ge : n ≤ k). ge) (cases_lt k n), (of_e k).1 is.behind, is.divergent)

-- a divergent instance lies between two events if it does between the counts of the barriers before them
pub parted : (s : Streams) (e f : EventId) (m n : ℕ) → CountsBehind s e m → CountsBehind s f n → AreParted s e f ↔ (HasDivergent s e.at.group n m ⊎ HasDivergent s f.at.group m n)
parted s e f m n of_e of_f = (
  λ h. ⊎_elim (λ p. inl (parting_is s e f m n of_e of_f h.0 p)) (λ p. inr (parting_is s f e n m of_f of_e h.0 p)) h.1,
  ⊎_elim (λ h. let p = is_parting s e f m n of_e of_f h in (p.0, inl p.1)) (λ h. let p = is_parting s f e n m of_f of_e h in (p.0, inr p.1)),
)
