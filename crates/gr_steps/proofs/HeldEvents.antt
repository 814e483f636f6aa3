-- How many events are held where no step is left.
use Rattle.gr_model.proofs.Common.{ℕ, zero, suc, ◌-◌, ◌<◌, ◌≤◌, List, length, arith, refl, sum_by, slice_get_within}
use Rattle.gr_steps.specs.Types.{EventId, ItemId}
use Rattle.gr_model.specs.Prelude.{IsNumberOf, IsLawful, IsHeld, items_of, Streams, trace_of, IsGrounded}
use Rattle.gr_steps.specs.Steps.{AreFirst, AreGrounded}

-- what holds from c on, and not before it, holds below a bound as often as c is below it
number_from : (P : ℕ → Type 0) (c bound : ℕ) → c ≤ bound → ((k : ℕ) → k < c → P k → ⊥) → ((k : ℕ) → c ≤ k → k < bound → P k) → IsNumberOf P bound (bound - c)
number_from P c zero le before behind = omega arith
number_from P c (suc b) le before behind = grind (arith, before, behind, number_from P b b, number_from P c b)

module _ (s : Streams) (order : List EventId) (lawful : IsLawful s order) (grounded : AreGrounded s order) (c : ItemId → ℕ) (first : AreFirst order c) where
  pub held_at_rest : IsHeld s (sum_by (λ i. length (trace_of s i) - c i) (items_of s.sizes))
  held_at_rest = (
    λ i. length (trace_of s i) - c i,
    λ i there. number_from (λ k. ¬ IsGrounded s (record { at = i; index = k })) (c i) (length (trace_of s i))
        (grind (arith, first (record { at = i; index = length (trace_of s i) }), lawful.event, slice_get_within))
        (λ k lt held. grind (arith, grounded (record { at = i; index = k }), first (record { at = i; index = k })))
        (λ k ge lt g. grind (arith, grounded (record { at = i; index = k }), first (record { at = i; index = k }))),
    refl,
  )
