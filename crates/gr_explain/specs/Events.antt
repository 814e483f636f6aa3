-- Sets of events, as the lists of their elements.
use Rattle.std.specs.Prelude.{Bool, List, IsTrue}
use Rattle.std.specs.List.{list_any}
use Rattle.gr_model.specs.declared.event.EventId.{EventId}
use Rattle.gr_model.specs.contracts.event.EventIdPartialEq.TheImpl as equality

abbrev pub same_event : EventId → EventId → Bool
same_event e f = (equality.eq-value).it e f

-- an event is one of these
abbrev pub Has : List EventId → EventId → Type 0
Has events e = IsTrue (list_any (same_event e) events)
