-- The accesses along an order are those of all lists to which these grow.
use Rattle.gr_model.proofs.Common.{◌≡◌, ℕ, suc, List, Some, slice_get, refl, ◌∙◌, arith}
use Rattle.gr_model.specs.declared.event.EventId.{EventId}
use Rattle.gr_model.specs.Prelude.{IsLawful, Grows, Streams, IsGrounded}
use Rattle.gr_model.proofs.Descent.{lawful_is_grounded}
use Rattle.gr_model.proofs.GrowthLaws.{before_grows, before_shrinks, event_grows, stage_event, word_grows}
use Rattle.gr_clocks.specs.ClockedAccess.{ClockedAccess}
use Rattle.gr_closure.specs.AccessesAlong.{AreAccesses, of_none, of_access, of_other}

module _ (s t : Streams) (grows : Grows s t) where
  along : (order : List EventId) (accesses : List ClockedAccess) → ((p : ℕ) (e : EventId) → slice_get order p ≡ Some e → IsGrounded s e) → AreAccesses s order accesses → AreAccesses t order accesses
  along _ _ grounded of_none = of_none
  along _ _ grounded (of_access {e = e} {x = x} {order = order} {accesses = accesses} of_e rest) =
      let here = grounded 0 e refl in
      of_access (grind (arith, of_e, here, word_grows, event_grows, before_grows, before_shrinks)) (along order accesses (λ p d at. grounded (suc p) d at) rest)
  along _ _ grounded (of_other {e = e} {order = order} {accesses = accesses} none rest) =
      let here = grounded 0 e refl in
      of_other (word_grows s t grows e (stage_event s t grows here.0 e here.1).0 ∙ none) (along order accesses (λ p d at. grounded (suc p) d at) rest)

  pub accesses_stay : (order : List EventId) (accesses : List ClockedAccess) → IsLawful s order → AreAccesses s order accesses → AreAccesses t order accesses
  accesses_stay order accesses lawful are = along order accesses (λ p e at. lawful_is_grounded s order e lawful (p, at)) are
