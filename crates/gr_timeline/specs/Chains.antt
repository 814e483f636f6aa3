-- Why an event is held: a chain of held events, each with a reason that leads to the next one, down to a reason that leads no further.
-- Source: docs/MODEL.md, "What waits for what".
use Rattle.std.specs.Prelude.{◌≡◌, ℕ, ◌<◌, List, [], ◌∷◌, IfSome, Option, None, Some, option_map, slice_get}
use Rattle.gr_timeline.specs.Types.{EventId, Link, Reason, Behind, Release, Barrier, Absent, OtherWord, Circle}
use Rattle.gr_model.specs.Prelude.{HasName, IsAbsent, IsOfOtherWord, Matches, Streams}
use Rattle.gr_timeline.specs.Waiting.{IsArrival, IsFirstHeld, IsHeldEvent}

-- the event for which one waits by a reason; by the last three it waits for none that is not in the chain
abbrev pub leads_to : Reason → Option EventId
leads_to (Behind d) = Some d
leads_to (Release d) = Some d
leads_to (Barrier d) = Some d
leads_to (Absent n) = None
leads_to (OtherWord n) = None
leads_to (Circle k) = None

-- the event of the link at a place
abbrev pub event_of : List Link → ℕ → Option EventId
event_of links k = option_map (λ l. l.event) (slice_get links k)

-- an earlier event of the item of e, the first that is held
pub record IsBehind (s : Streams) (e d : EventId) : Type 0 where
  pub item : d.at ≡ e.at
  pub before : d.index < e.index
  pub first : IsFirstHeld s d

-- why e is held, if e is the event of the link at place p
abbrev pub IsReason : Streams → List Link → ℕ → EventId → Reason → Type 0
IsReason s links p e (Behind d) = IsBehind s e d
IsReason s links p e (Release d) = Matches s e d
IsReason s links p e (Barrier d) = IsArrival s e d
IsReason s links p e (Absent n) = HasName s e n × IsAbsent s n
IsReason s links p e (OtherWord n) = HasName s e n × IsOfOtherWord s e n
IsReason s links p e (Circle k) = (k < p) × (event_of links k ≡ Some e)

-- why e is held, if that is no circle
abbrev pub IsCause : Streams → EventId → Reason → Type 0
IsCause s e r = IsReason s [] 0 e r

-- the event to which a reason leads, if it leads to one, is held
abbrev pub LeadsToHeld : Streams → Reason → Type 0
LeadsToHeld s r = IfSome (leads_to r) (IsHeldEvent s)

-- the first link is of the first event, the reason of each link leads to the event of the next, and that of the last to the second event
abbrev pub Lead : Option EventId → List Link → Option EventId → Type 0
Lead from [] to = from ≡ to
Lead from (l ∷ links) to = (from ≡ Some l.event) × Lead (leads_to l.reason) links to

-- links from e on, whose last one leads to this event: each is a held event, with the reason why
pub record IsChainTo (s : Streams) (e : EventId) (links : List Link) (to : Option EventId) : Type 0 where
  pub leads : Lead (Some e) links to
  pub held : (p : ℕ) (l : Link) → slice_get links p ≡ Some l → IsHeldEvent s l.event
  pub reason : (p : ℕ) (l : Link) → slice_get links p ≡ Some l → IsReason s links p l.event l.reason

-- the chain of a held event: it leads no further
abbrev pub IsChain : Streams → EventId → List Link → Type 0
IsChain s e links = IsChainTo s e links None
