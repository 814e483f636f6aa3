-- The details of an event: what a report says of an access.
-- Source: docs/OUTPUT.md, "explain --long".
use Rattle.std.specs.Prelude.{ℕ, List, Option, filter, length, option_and_then, option_map, slice_get, take}
use Rattle.gr_timeline.specs.Types.{Event, EventId, Details}
use Rattle.gr_model.specs.Prelude.{is_barrier, Streams, is_of, list_of, places_from}

-- the record of an event in its group's list, the number of the record there, and how many barriers of its item come before it
abbrev pub event_in : List Event → EventId → Option Event
event_in list e = slice_get (filter (is_of e.at.item) list) e.index

abbrev pub number_in : List Event → EventId → Option ℕ
number_in list e = slice_get (places_from (is_of e.at.item) 0 list) e.index

abbrev pub phase_in : List Event → EventId → ℕ
phase_in list e = length (filter is_barrier (take e.index (filter (is_of e.at.item) list)))

-- the details of an event, if it is there
abbrev pub told_from : Option Event → Option ℕ → ℕ → Option Details
told_from event number phase = option_and_then (λ x. option_map (λ n. record { kind = x.kind; number = n; phase = phase }) number) event

abbrev pub told_in : List Event → EventId → Option Details
told_in list e = told_from (event_in list e) (number_in list e) (phase_in list e)

-- how many barriers of its item come before an event of a launch
abbrev pub phase_of : Streams → EventId → ℕ
phase_of s e = phase_in (list_of s e.at.group) e

-- what its record says, the number of the record in the stream, and how many barriers come before it
abbrev pub details_of : Streams → EventId → Option Details
details_of s e = told_in (list_of s e.at.group) e
