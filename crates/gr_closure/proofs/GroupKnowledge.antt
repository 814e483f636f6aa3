-- What a barrier sees whose instance meets; and what its item, its group, and the others, know then.
use Rattle.gr_model.proofs.Common.{◌≡◌, ◌≢◌, ◌⊎◌, ◌↔◌, ℕ, ◌<◌, List, IsTrue, IsFalse, refl, sym, subst, inl, inr, ⊎_elim, arith}
use Rattle.gr_closure.specs.Types.{EventId, ItemId, Space}
use Rattle.gr_model.specs.Prelude.{IsConvergent, StandsIn, Together, Sees, Mark, flags, IsIn, IsLawful, ArePrefixes, Streams, size_of}
use Rattle.gr_steps.specs.Steps.{Meets}
use Rattle.gr_steps.proofs.BarrierPlaces.{barrier_of, barrier_there, moved, same_instance, stands_same}
use Rattle.gr_steps.proofs.EventRecords.{barriers_name_nothing}
use Rattle.gr_steps.proofs.Orders.{there_is}
use Rattle.gr_closure.specs.Knowledge.{Knows, Learns, by_event, by_instance}
use Rattle.gr_closure.proofs.LongerOrders.{in_back, in_prefix, in_longer, knows_more, knows_split}
use Rattle.gr_closure.proofs.NextInItem.{barrier_is_next, next_sees}

module _ (s : Streams) (m : Space) (old new : List EventId) (g k : ℕ) (prefixes : ArePrefixes s) (lawful : IsLawful s old) (met : Meets s old g k new) where
  -- a barrier names nothing, so it learns nothing
  learns_nothing : (b d : EventId) → StandsIn s b g k → Learns s m b d → ⊥
  learns_nothing b d stands l = grind (arith, barrier_there, barriers_name_nothing)

  pub met_sees : (b d : EventId) → StandsIn s b g k → Sees s m b d ↔ ((d ≡ b) ⊎ Knows s m old b.at d)
  met_sees b d stands =
      let there = barrier_there s b g k stands in
      let sees = next_sees s m old b (there.0, there.1) (barrier_is_next s old lawful g k met.mark met.meeting b stands) d in (
        λ seen. ⊎_elim inl (⊎_elim inr (λ l. absurd (learns_nothing b d stands l))) (sees.0 seen),
        ⊎_elim inl (λ known. sees.1 (inr (inl known))),
      )

  -- ---- the longer order

  pub met_now : (b : EventId) → StandsIn s b g k → IsIn new b
  met_now b stands =
      let there = there_is met.barriers b.at.item (omega (arith, met.are.count, stands.item)) in
      let is = met.are.each b.at.item there.0 there.1 in
      grind (arith, met.order, there, stands_same s there.0 b g k is.1 stands is.0, in_back old met.barriers b)

  pub met_cases : (x : EventId) → IsIn new x → IsIn old x ⊎ StandsIn s x g k
  met_cases x h = grind (arith, in_longer old met.barriers x (subst (λ l. IsIn l x) met.order h), met.are.each)

  -- this is the number of an instance that a barrier is in
  here : (a : Mark) (c b : EventId) → StandsIn s b g k → Together s a c b → StandsIn s c g k × IsConvergent s g k a
  here a c b stands t = grind (arith, same_instance, moved)

  -- ---- in a memory that is flagged

  some_sees : (b d : EventId) → StandsIn s b g k → Knows s m new b.at d → (c : EventId) × StandsIn s c g k × Sees s m c d
  some_sees b d stands known = ⊎_elim (λ was. (b, stands, (met_sees b d stands).1 (inr was))) now (knows_split s m old met.barriers new b.at d met.order known)
    where
      now : Knows s m met.barriers b.at d → (c : EventId) × StandsIn s c g k × Sees s m c d
      now (by_event x h item seen) = (x, (met.are.each h.0 x h.1).1, seen)
      now (by_instance a c x h item flagged t seen) = (c, (here a c x (met.are.each h.0 x h.1).1 t).0, seen)

  pub flagged_knows : (i : ItemId) (d : EventId) → IsTrue (flags met.mark m) → i.group ≡ g → i.item < size_of s g → Knows s m new i d ↔ ((b : EventId) × StandsIn s b g k × Sees s m b d)
  flagged_knows i d flagged group within =
      let found = barrier_of s g k met.mark met.meeting.convergent i.item within in
      let b : EventId = record { at = record { group = g; item = i.item }; index = found.0 } in
      let item : b.at ≡ i = λ j. record { group = sym group j; item = i.item } in (
        λ known. some_sees b d found.1 (subst (λ j. Knows s m new j d) (sym item) known),
        λ h. by_instance met.mark h.0 b (met_now b found.1) item flagged (record { group = g; instance = k; convergent = met.meeting.convergent; first = h.1; second = found.1 }) h.2,
      )

  -- ---- in the other

  own_sees : (b d : EventId) → IsFalse (flags met.mark m) → StandsIn s b g k → Knows s m new b.at d → Sees s m b d
  own_sees b d apart stands known = ⊎_elim (λ was. (met_sees b d stands).1 (inr was)) now (knows_split s m old met.barriers new b.at d met.order known)
    where
      now : Knows s m met.barriers b.at d → Sees s m b d
      now (by_event x h item seen) = grind (arith, stands_same s x b g k (met.are.each h.0 x h.1).1 stands, item, seen)
      now (by_instance a c x h item flagged t seen) =
          let one = (here a c x (met.are.each h.0 x h.1).1 t).1 in grind (arith, one.1 0 one.0, met.meeting.convergent.1 0 one.0, flagged, apart)

  pub unflagged_knows : (b d : EventId) → IsFalse (flags met.mark m) → StandsIn s b g k → Knows s m new b.at d ↔ Sees s m b d
  unflagged_knows b d apart stands = (own_sees b d apart stands, λ seen. by_event b (met_now b stands) refl seen)

  -- ---- in other groups

  pub others_know_after_meet : (i : ItemId) (d : EventId) → i.group ≢ g → Knows s m new i d ↔ Knows s m old i d
  others_know_after_meet i d other = (
    knows_more s m new old i d (λ x item h. grind (arith, met_cases x h, other, item)),
    knows_more s m old new i d (λ x item h. grind (arith, met.order, in_prefix old met.barriers x h)),
  )
