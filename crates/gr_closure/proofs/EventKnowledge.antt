-- What an event that is handled sees; and what its item, and the others, know then.
use Rattle.gr_model.proofs.Common.{inl, ◌≡◌, ◌≢◌, ◌⊎◌, ◌↔◌, List, [], ◌∷◌, refl, subst, inr, ⊎_elim, arith}
use Rattle.gr_closure.specs.Types.{EventId, ItemId, Space}
use Rattle.gr_model.specs.Prelude.{Sees, IsIn, IsLawful, Streams}
use Rattle.gr_model.proofs.GrowthLaws.{not_both}
use Rattle.gr_steps.specs.Steps.{Handles}
use Rattle.gr_closure.specs.Knowledge.{Knows, Learns, by_event, by_instance}
use Rattle.gr_closure.proofs.LongerOrders.{in_back, in_prefix, in_longer, knows_more, knows_split}
use Rattle.gr_closure.proofs.NextInItem.{next_sees, ready_event_is_next}

module _ (s : Streams) (m : Space) (old new : List EventId) (e : EventId) (lawful : IsLawful s old) (handles : Handles s old e new) where
  pub handled_sees : (d : EventId) → Sees s m e d ↔ ((d ≡ e) ⊎ Knows s m old e.at d ⊎ Learns s m e d)
  handled_sees d = next_sees s m old e handles.ready.event (ready_event_is_next s old lawful e handles.ready) d

  pub handled_cases : (x : EventId) → IsIn new x → IsIn old x ⊎ (x ≡ e)
  handled_cases x h = grind (arith, in_longer old (e ∷ []) x (subst (λ l. IsIn l x) handles.order h))

  pub handled_knows : (d : EventId) → Knows s m new e.at d ↔ Sees s m e d
  handled_knows d = (
    λ known. ⊎_elim (λ was. (handled_sees d).1 (inr (inl was))) now (knows_split s m old (e ∷ []) new e.at d handles.order known),
    by_event e there refl,
  )
    where
      there : IsIn new e
      there = grind (arith, handles.order, in_back old (e ∷ []) e (0, refl))

      now : Knows s m (e ∷ []) e.at d → Sees s m e d
      now (by_event x h item seen) = grind (arith, h, seen)
      now (by_instance a c b h item flagged met seen) =
          grind (arith, h, met.second, not_both s met.group met.instance a met.convergent, handles.ready.instance met.group met.instance)

  pub others_know_after_handle : (i : ItemId) (d : EventId) → i ≢ e.at → Knows s m new i d ↔ Knows s m old i d
  others_know_after_handle i d other = (
    knows_more s m new old i d (λ x item h. grind (arith, handled_cases x h, other, item)),
    knows_more s m old new i d (λ x item h. grind (arith, handles.order, in_prefix old (e ∷ []) x h)),
  )
