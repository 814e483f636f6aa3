-- Data races.
-- Source: OpenCL 2.0 specification, section 3.3 (memory model), "conflict", "inclusive scope" and "data race".
use Rattle.std.specs.Prelude.{◌≡◌, ◌≢◌, ◌||◌, Some, IsTrue, IsFalse}
use Rattle.gr_model.specs.Types.{EventId, Event, Word}
use Rattle.gr_model.specs.Access.{modifies, inclusive, memory_of}
use Rattle.gr_model.specs.Streams.{Streams, event_at, word_at}
use Rattle.gr_model.specs.HappensBefore.{HappensBefore}

-- accesses of different items to one word, of which one modifies it, and which are not both atomic with inclusive scope
pub record MayRace (s : Streams) (w : Word) (e f : EventId) : Type 0 where
  pub first : Event
  pub second : Event
  pub at_first : event_at s e ≡ Some first
  pub at_second : event_at s f ≡ Some second
  pub word_first : word_at s e ≡ Some w
  pub word_second : word_at s f ≡ Some w
  pub others : e.at ≢ f.at
  pub modifying : IsTrue (modifies first.kind || modifies second.kind)
  pub apart : IsFalse (inclusive first.kind e.at.group second.kind f.at.group)

-- such a pair that the happens-before of the word's memory does not order
pub record IsRace (s : Streams) (w : Word) (e f : EventId) : Type 0 where
  pub may_race : MayRace s w e f
  pub not_before : ¬ HappensBefore s (memory_of w) e f
  pub not_after : ¬ HappensBefore s (memory_of w) f e

-- a word has a race within a set of events
abbrev pub IsRacy : Streams → (EventId → Type 0) → Word → Type 0
IsRacy s Within w = (e f : EventId) × Within e × Within f × IsRace s w e f

-- of two events of an order, the first the earlier: they race on the word unless they are ordered, and the earlier does not happen before the later
pub record RacesInOrder (s : Streams) (w : Word) (e f : EventId) : Type 0 where
  pub may_race : MayRace s w e f
  pub not_before : ¬ HappensBefore s (memory_of w) e f
