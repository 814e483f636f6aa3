-- The accesses to a word that have one tag and one class.
-- Source: docs/MODEL.md, "Hits". Tags are this project's own.
use Rattle.std.specs.Prelude.{◌≡◌, ◌≤◌, ◌==◌, ◌&&◌, ◌||◌, ℕ, Bool, Contains, IfSome, if◌then◌else◌, List, [], Option, None, Some, nat_lt, not}
use Rattle.gr_explain.specs.Types.{EventId, ItemId, Class}
use Rattle.gr_shadow.specs.Clashes.{ClockedAccess, clashes_with, event_of}

-- a tag, a class, and events of accesses that have them
pub record AlikeEvents : Type 0 where
  pub tag : ℕ
  pub class : Class
  pub events : List EventId

-- if a group is known, all events are of it
abbrev pub AreOfOnly : Option ℕ → List EventId → Type 0
AreOfOnly only events = IfSome only (λ g. (e : EventId) → Contains events e → e.at.group ≡ g)

abbrev pub only_with : Option ℕ → ℕ → Option ℕ
only_with None g = None
only_with (Some kept) g = if kept == g then Some kept else None

abbrev pub no_events : ℕ → Class → AlikeEvents
no_events tag class = record { tag = tag; class = class; events = [] }

abbrev pub entry_event : ItemId × ℕ → EventId
entry_event e = record { at = e.0; index = e.1 }

-- a later access clashes with the access of an event, which is of the class
abbrev pub event_clashes : Class → ClockedAccess → EventId → Bool
event_clashes class y e = clashes_with e.at e.index class y

-- two events are of two work-groups, where that is asked for
abbrev pub are_of_groups : Bool → EventId → EventId → Bool
are_of_groups two e f = not two || not (e.at.group == f.at.group)

-- a later access clashes with the access of an event, which is of the class, and is of another group where that is asked for
abbrev pub is_sought : Bool → Class → ClockedAccess → EventId → Bool
is_sought two class y e = are_of_groups two e (event_of y) && event_clashes class y e

abbrev pub greatest : Option ℕ → ℕ → ℕ
greatest None index = index
greatest (Some kept) index = if nat_lt kept index then index else kept

-- an event represents another: it is of the same item, and its index is not smaller
pub record IsInPlaceOf (d e : EventId) : Type 0 where
  pub item : d.at ≡ e.at
  pub index : e.index ≤ d.index

-- each event that is kept is one of these, and each of these is represented by one that is kept
pub record KeepsEvents (kept all : List EventId) : Type 0 where
  pub each : (e : EventId) → Contains kept e → Contains all e
  pub some : (e : EventId) → Contains all e → (d : EventId) × Contains kept d × IsInPlaceOf d e
