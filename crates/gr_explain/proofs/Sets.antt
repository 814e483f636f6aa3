-- Sets of events, as the lists of their elements.
use Rattle.gr_model.proofs.Common.{◌≡◌, arith, true, nat_tests}
use Rattle.gr_model.specs.declared.event.EventId.{EventId}
use Rattle.gr_model.specs.contracts.event.EventIdEq.TheImpl.Laws as equal
use Rattle.gr_model.proofs.Cuts.{same_event as from_parts}
use Rattle.gr_explain.specs.Events.{same_event}

pub event_from_equal : (d e : EventId) → same_event d e ≡ true → d ≡ e
event_from_equal d e h = grind (arith, nat_tests, from_parts)

pub event_itself : (e : EventId) → same_event e e ≡ true
event_itself e = equal.laws-law.refl e
