-- Where no event may be handled and no instance may meet, every grounded event is handled.
use Rattle.gr_model.proofs.Common.{ℕ, zero, suc, List, refl, ⊎_elim, arith}
use Rattle.gr_model.specs.declared.event.EventId.{EventId}
use Rattle.gr_model.specs.Prelude.{Together, IsConvergent, IsDivergent, StandsIn, Mark, IsIn, IsLawful, IsEvent, Streams, IsSettled, Stage, Waits, for_arrival}
use Rattle.gr_model.proofs.Descent.{together-swap, lawful_is_grounded}
use Rattle.gr_steps.specs.Steps.{AreGrounded, IsAtRest}
use Rattle.gr_steps.proofs.BarrierPlaces.{same_instance, standing}
use Rattle.gr_steps.proofs.Deciding.{by_cases, in_dec}
use Rattle.gr_steps.proofs.Meeting.{meeting_of}
use Rattle.gr_steps.proofs.Orders.{met_handled}

module _ (s : Streams) (order : List EventId) (lawful : IsLawful s order) (rest : IsAtRest s order) where
  -- an event that is not handled still waits for something
  stuck : (e : EventId) → IsEvent s e → IsSettled s e → ((d : EventId) → Waits s e d → IsIn order d) → (IsIn order e → ⊥) → ⊥
  stuck e there go waits away =
      by_cases (standing s e)
      (λ h. ⊎_elim (λ c. meet h.0 h.1 c.0 h.2 c.1) (λ d. handle (λ g k stands. grind (arith, d, stands, same_instance s e h.0 h.1 g k h.2))) (go.instance h.0 h.1 h.2))
      (λ none. handle (λ g k stands. absurd (none (g, k, stands))))
    where
      handle : ((g k : ℕ) → StandsIn s e g k → IsDivergent s g k) → ⊥
      handle each = rest.handles e.at (e, refl, record { event = there; fresh = away; waits = waits; release = go.release; instance = each })

      meet : (g k : ℕ) (a : Mark) → StandsIn s e g k → IsConvergent s g k a → ⊥
      meet g k a stands convergent =
          let together : (b : EventId) → StandsIn s b g k → Together s a e b = λ b other. record { group = g; instance = k; convergent = convergent; first = stands; second = other } in
          rest.meets g (
            k,
            a,
            meeting_of s order lawful g k a convergent
                (λ met. away (met_handled s order lawful a met.0 e met.2 (together-swap (together met.0 met.1))))
                (λ b d other previous. waits d (for_arrival a b (together b other) previous)),
          )

  stage_handled : (n : ℕ) (e : EventId) → Stage s n e → IsIn order e
  stage_handled zero e h = absurd h
  stage_handled (suc n) e h =
      by_cases (in_dec order e) (λ there. there) (λ away. absurd (stuck e h.0 h.1 (λ d w. stage_handled n d (h.2 d w)) away))

  pub rest_grounded : AreGrounded s order
  rest_grounded e = (lawful_is_grounded s order e lawful, λ h. stage_handled h.0 e h.1)
