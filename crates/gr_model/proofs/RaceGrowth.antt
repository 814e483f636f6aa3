-- A race of events that are grounded stays one where lists that are not complete grow.
use Rattle.gr_model.proofs.Common.{List, arith}
use Rattle.gr_model.specs.Types.{EventId, Word}
use Rattle.gr_model.specs.Prelude.{IsIn, IsLawful, IsRace, IsRacy, Grows, Streams, IsGrounded}
use Rattle.gr_model.proofs.Descent.{lawful_is_grounded}
use Rattle.gr_model.proofs.GrowthLaws.{before_shrinks, event_grows, stage_grows, word_grows}

module _ (s t : Streams) (grows : Grows s t) (w : Word) where
  race_grows : (e f : EventId) → IsGrounded s e → IsGrounded s f → IsRace s w e f → IsRace t w e f
  race_grows e f ge gf r = grind (arith, event_grows, word_grows, before_shrinks)

  grounded_grows : (e : EventId) → IsGrounded s e → IsGrounded t e
  grounded_grows e g = (g.0, stage_grows s t grows g.0 e g.1)

  pub races_stay : (order : List EventId) → IsLawful s order → IsRacy s (IsIn order) w → IsRacy t (IsGrounded t) w
  races_stay order lawful r =
      let first = lawful_is_grounded s order r.0 lawful r.2 in
      let second = lawful_is_grounded s order r.1 lawful r.3 in
      (r.0, r.1, grounded_grows r.0 first, grounded_grows r.1 second, race_grows r.0 r.1 first second r.4)
