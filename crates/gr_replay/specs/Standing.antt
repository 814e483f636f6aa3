-- Records in the bytes that have them.
use Rattle.std.specs.Prelude.{◌≡◌, ℕ, List, [], Result, Ok, Err}
use Rattle.gr_replay.specs.Types.{Event, RecordError, Header}
use Rattle.gr_record.specs.Prelude.{front_records_at}

abbrev pub events_in : Result (List Event × List ℕ) RecordError → List Event
events_in (Ok x) = x.0
events_in (Err e) = []

-- the records at the front of the bytes up to the end, if an end is there
abbrev pub listed : Header → List ℕ → List Event
listed h bytes = events_in (front_records_at h bytes)

-- an end is there
abbrev pub IsWholeStream : Header → List ℕ → Type 0
IsWholeStream h bytes = (rest : List ℕ) × (front_records_at h bytes ≡ Ok (listed h bytes, rest))
