-- What a work-item knows along an order: the events that happen before whatever it does next.
-- Source: docs/MODEL.md, "Clocks". After OpenCL 2.0 specification, section 3.3 (memory model), "global-happens-before" and "local-happens-before".
use Rattle.std.specs.Prelude.{◌≡◌, List, IsTrue}
use Rattle.gr_closure.specs.Types.{Space, ItemId, EventId}
use Rattle.gr_model.specs.Prelude.{Mark, flags, Streams, Matches, Together, IsIn, IsInclusive, Sees}

-- in a memory, item i knows of d when the events of this order are handled
pub data Knows (s : Streams) (m : Space) (order : List EventId) (i : ItemId) (d : EventId) : Type 0 where
  -- an event of the item was handled, and d is this event or happens before it
  by_event : (e : EventId) → IsIn order e → e.at ≡ i → Sees s m e d → Knows s m order i d
  -- a barrier b of the item was handled in a convergent instance that flags the memory, and d is a barrier of the instance or happens before one
  by_instance : (a : Mark) (c b : EventId) → IsIn order b → b.at ≡ i → IsTrue (flags a m) → Together s a c b → Sees s m c d → Knows s m order i d

-- in a memory, e learns of d from the release that it matches
pub record Learns (s : Streams) (m : Space) (e d : EventId) : Type 0 where
  pub release : EventId
  pub matches : Matches s e release
  pub inclusive : IsInclusive s m release e
  pub seen : Sees s m release d
