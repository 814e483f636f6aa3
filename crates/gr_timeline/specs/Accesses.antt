-- All accesses of a launch to one word, with the details of each.
use Rattle.std.specs.Prelude.{◌≡◌, List, None, Option, Some}
use Rattle.std.specs.Map.{lookup}
use Rattle.gr_timeline.specs.Types.{EventId, Word, Details}
use Rattle.gr_model.specs.Prelude.{Streams, word_at}
use Rattle.gr_explain.specs.Events.{same_event}
use Rattle.gr_timeline.specs.Details.{details_of}

-- an event accesses this word
abbrev pub IsOn : Streams → Word → EventId → Type 0
IsOn s w e = word_at s e ≡ Some w

-- what is known of an event
abbrev pub details_at : List (EventId × Details) → EventId → Option Details
details_at known e = lookup (same_event e) known

-- of an access to the word its details, and of any other event nothing
abbrev pub IsKnown : Streams → Word → EventId → Option Details → Type 0
IsKnown s w e None = ¬ IsOn s w e
IsKnown s w e (Some d) = IsOn s w e × (details_of s e ≡ Some d)

-- this is known of each event
abbrev pub AreAccesses : Streams → Word → List (EventId × Details) → Type 0
AreAccesses s w known = (e : EventId) → IsKnown s w e (details_at known e)
