-- What is read of the prefix of a list of bytes: records up to an end, up to bytes that are no whole record, or up to a fault.
-- Source: docs/FORMATS.md, "Stream" and "Faults of a whole record".
use Rattle.std.specs.Prelude.{ℕ, zero, suc, List, [], ◌∷◌, length, take, drop, nat_lt, Result, Ok, Err, if◌then◌else◌}
use Rattle.gr_record.specs.Types.{Event, Header, RecordError, Stop, Inside, AtEnd, AtFault}
use Rattle.gr_model.specs.Prelude.{is_end}
use Rattle.gr_record.specs.declared.error.RecordError.TheVariants as errors
use Rattle.gr_record.specs.Versions.{record_length}
use Rattle.gr_record.specs.Reading.{event_at}

-- the records that are read, the bytes after them, and why reading stops there
pub record Records : Type 0 where
  pub events : List Event
  pub rest : List ℕ
  pub stop : Stop

-- an event before others
abbrev pub behind : Event → Records → Records
behind e r = record { events = e ∷ r.events; rest = r.rest; stop = r.stop }

-- what a whole record of so many bytes says, and then what follows it
abbrev pub step : ℕ → Result Event RecordError → List ℕ → Records → Records
step size (Err e) bytes next = record { events = []; rest = bytes; stop = AtFault e }
step size (Ok e) bytes next = if is_end e then record { events = e ∷ []; rest = drop size bytes; stop = AtEnd } else behind e next

-- at most so many records, each of so many bytes, and read from them by read
unfoldable pub records_at : ℕ → (List ℕ → Result Event RecordError) → ℕ → List ℕ → Records
records_at size read zero bytes = record { events = []; rest = bytes; stop = if nat_lt (length bytes) size then Inside else AtFault errors.TooManyRecords }
records_at size read (suc most) bytes =
    if nat_lt (length bytes) size then record { events = []; rest = bytes; stop = Inside }
    else step size (read (take size bytes)) bytes (records_at size read most (drop size bytes))

-- at most so many records of the stream of this header
abbrev pub records_of : Header → ℕ → List ℕ → Records
records_of h most bytes = records_at (record_length h.version) (event_at h) most bytes
