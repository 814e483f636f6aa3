-- The accesses along an order: what a race test is given, one access after another.
-- Source: docs/MODEL.md, "Hits".
use Rattle.std.specs.Prelude.{◌≡◌, List, [], ◌∷◌, Option, None, Some}
use Rattle.gr_model.specs.declared.event.EventId.{EventId}
use Rattle.gr_model.specs.Prelude.{Streams, word_at}
use Rattle.gr_closure.specs.Accesses.{IsAccess}
use Rattle.gr_clocks.specs.ClockedAccess.{ClockedAccess, bare}

-- the accesses of the events of an order, one for each event that is an access, in the order of the events
pub data AreAccesses (s : Streams) : List EventId → List ClockedAccess → Type 0 where
  -- of no events there are none
  of_none : AreAccesses s [] []
  -- an event that is an access has its own at the front
  of_access : {e : EventId} {x : ClockedAccess} {order : List EventId} {accesses : List ClockedAccess} → IsAccess s e (bare x) → AreAccesses s order accesses → AreAccesses s (e ∷ order) (x ∷ accesses)
  -- an event that has no word has none
  of_other : {e : EventId} {order : List EventId} {accesses : List ClockedAccess} → word_at s e ≡ None → AreAccesses s order accesses → AreAccesses s (e ∷ order) accesses

-- the access on its way, as a list
abbrev pub in_flight_list : Option ClockedAccess → List ClockedAccess
in_flight_list None = []
in_flight_list (Some x) = x ∷ []
