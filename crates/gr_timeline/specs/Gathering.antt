-- The details of a group's events, by the records of its list.
use Rattle.std.specs.Prelude.{◌≡◌, ◌≢◌, ◌⊎◌, ℕ, List, None, Option, Some, if◌then◌else◌, option_and_then}
use Rattle.gr_timeline.specs.Types.{Event, EventId, Word, Count, Details}
use Rattle.gr_model.specs.Prelude.{event_word}
use Rattle.gr_timeline.specs.Accesses.{details_at}
use Rattle.gr_timeline.specs.Details.{event_in, told_in}
use Rattle.gr_explain.specs.Events.{same_event}

-- the word that an event accesses, by the list of its group
abbrev pub word_in : List Event → EventId → Option Word
word_in list e = option_and_then (event_word e.at.group) (event_in list e)

-- of an access to the word its details by the list, and of any other event nothing
abbrev pub IsKnownIn : List Event → Word → EventId → Option Details → Type 0
IsKnownIn list w e None = word_in list e ≢ Some w
IsKnownIn list w e (Some d) = (word_in list e ≡ Some w) × (told_in list e ≡ Some d)

-- this is known of each event of the group
abbrev pub AreKnownIn : List Event → Word → ℕ → List (EventId × Details) → Type 0
AreKnownIn list w g known = (e : EventId) → e.at.group ≡ g → IsKnownIn list w e (details_at known e)

-- of the events of other groups the same is known
abbrev pub AreOthersKept : ℕ → List (EventId × Details) → List (EventId × Details) → Type 0
AreOthersKept g old new = (e : EventId) → e.at.group ≢ g → details_at new e ≡ details_at old e

-- ---- one record more

-- the event of a record, whose item has so many records before it, and its details
abbrev pub event_of : ℕ → Event → Count → EventId
event_of g x c = record { at = record { group = g; item = x.item }; index = c.records }

abbrev pub details_by : ℕ → Event → Count → Details
details_by number x c = record { kind = x.kind; number = number; phase = c.barriers }

-- the details of a record are kept if it accesses the word, and else nothing changes
abbrev pub KeepsRecord : Word → ℕ → ℕ → Event → Count → List (EventId × Details) → List (EventId × Details) → Type 0
KeepsRecord w g number x c old new =
    ((event_word g x ≡ Some w) × ((e : EventId) → details_at new e ≡ (if same_event (event_of g x c) e then Some (details_by number x c) else details_at old e)))
    ⊎ ((event_word g x ≢ Some w) × (new ≡ old))
