-- What an answer says of an event.
use Rattle.gr_model.proofs.Common.{◌↔◌, IsTrue, zero, suc, refl, sym, true≢false}
use Rattle.gr_model.specs.declared.event.EventId.{EventId}
use Rattle.gr_model.specs.Prelude.{IsEvent, Streams, IsGrounded}
use Rattle.gr_timeline.specs.Waiting.{IsHeldEvent}
use Rattle.gr_timeline.specs.Why.{Answer, IsWhy, held, judged, no_record, says_held}

-- a grounded event is there
pub grounded_there : (s : Streams) (e : EventId) → IsGrounded s e → IsEvent s e
grounded_there s e (zero, h) = absurd h
grounded_there s e (suc n, h) = h.0

-- an answer says that the event is held just if it is
pub why_said : (s : Streams) (e : EventId) (a : Answer) → IsWhy s e a → IsTrue (says_held a) ↔ IsHeldEvent s e
why_said s e no_record none = (λ f. absurd (true≢false (sym f)), λ h. absurd (none h.event))
why_said s e judged is = (λ f. absurd (true≢false (sym f)), λ h. absurd (h.held is.1))
why_said s e (held links) is = (λ t. is.0, λ h. refl)
