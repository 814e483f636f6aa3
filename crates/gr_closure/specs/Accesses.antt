-- The access of an event: what a race test has to know of it.
-- Source: docs/MODEL.md, "Clocks" and "Classes of accesses".
use Rattle.std.specs.Prelude.{◌≡◌, ◌↔◌, ◌<◌, Option, None, Some}
use Rattle.gr_model.specs.declared.event.Event.{Event}
use Rattle.gr_closure.specs.Types.{EventId, Access}
use Rattle.gr_model.specs.Prelude.{memory_of, Sees, Streams, event_at, word_at, class_of}
use Rattle.gr_clocks.specs.Counts.{Counts, count_of}

-- a clock counts just the events of which P holds: of each item its first ones
abbrev pub CountsJust : Counts → (EventId → Type 0) → Type 0
CountsJust c P = (d : EventId) → (d.index < count_of c d.at) ↔ P d

-- the access of an event has its word, item, index and class, and a clock that counts the event and what happens before it in the word's memory
pub record IsAccess {Z : Type 0} (s : Streams) (e : EventId) (a : Access Z) : Type 0 where
  pub word : word_at s e ≡ Some a.word
  pub item : a.item ≡ e.at
  pub index : a.index ≡ e.index
  pub event : Event
  pub at_event : event_at s e ≡ Some event
  pub class : class_of event.kind ≡ Some a.class
  pub counts : CountsJust a.clock.counts (Sees s (memory_of a.word) e)

-- an event that is no access has none
abbrev pub IsAccessOf : {Z : Type 0} → Streams → EventId → Option (Access Z) → Type 0
IsAccessOf s e None = word_at s e ≡ None
IsAccessOf s e (Some a) = IsAccess s e a
