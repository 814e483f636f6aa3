-- A lawful order stays lawful where an event that is ready comes after it.
use Rattle.gr_model.proofs.Common.{◌≡◌, ℕ, List, [], ◌∷◌, ◌++◌, sym, subst, inr, arith}
use Rattle.gr_model.specs.declared.event.EventId.{EventId}
use Rattle.gr_model.specs.Prelude.{IsAt, IsLawful, IsEvent, Streams, IsSettled, Waits}
use Rattle.gr_model.proofs.GrowthLaws.{not_both}
use Rattle.gr_steps.specs.Steps.{IsReady}
use Rattle.gr_steps.proofs.Orders.{lawful_longer}

pub lawful_handle : (s : Streams) (order : List EventId) → IsLawful s order → (e : EventId) → IsReady s order e → IsLawful s (order ++ e ∷ [])
lawful_handle s order lawful e ready = lawful_longer s order (e ∷ []) lawful (record {
  event = λ i x at. subst (λ y. IsEvent s y × IsSettled s y) (only i x at).1
      (ready.event, record { release = ready.release; instance = λ g k stands. inr (ready.instance g k stands) });
  fresh = λ i x at. grind (arith, only i x at, ready.fresh);
  once = λ i j x at bt. omega (arith, (only i x at).0, (only j x bt).0);
  waits = λ i x d at w. ready.waits d (subst (λ y. Waits s y d) (sym (only i x at).1) w);
  together = λ i x b a at met.
      absurd (grind (arith, only i x at, met.first, not_both s met.group met.instance a met.convergent, ready.instance met.group met.instance));
})
  where
    only : (i : ℕ) (x : EventId) → IsAt (e ∷ []) i x → (i ≡ 0) × (e ≡ x)
    only i x at = grind arith
