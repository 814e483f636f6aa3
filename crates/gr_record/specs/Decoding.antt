-- What is read of one stream however far its bytes have come, and what a decoder keeps of the bytes fed to it.
-- Source: docs/FORMATS.md, "Stream" and "Faults of a whole record".
use Rattle.std.specs.Prelude.{◌≡◌, ◌≢◌, ℕ, Bool, true, false, ◌+◌, ◌-◌, ◌/◌, ◌<◌, ◌≤◌, List, [], ◌∷◌, ◌++◌, length, take, drop, map, Option, Some, None, Result, Ok, Err, nat_lt, if◌then◌else◌}
use Rattle.gr_record.specs.Types.{Event, MOST_RECORDS, RecordError, Header, Part, Stop, Inside, AtEnd, AtFault, HEADER_LENGTH, RECORD_LENGTH}
use Rattle.gr_record.specs.declared.error.RecordError.TheVariants as errors
use Rattle.gr_record.specs.declared.part.Part.TheVariants as parts
use Rattle.gr_record.specs.Versions.{record_length}
use Rattle.gr_record.specs.Reading.{header_at}
use Rattle.gr_record.specs.Fronts.{Records, records_of}

-- the header, if it was read, and the records; the bytes that are left, and why reading stops there
pub record Reading : Type 0 where
  pub header : Option Header
  pub events : List Event
  pub rest : List ℕ
  pub stop : Stop

-- a byte after the end is a fault
abbrev pub close : Stop → List ℕ → Stop
close Inside rest = Inside
close AtEnd [] = AtEnd
close AtEnd (b ∷ bytes) = AtFault errors.AfterEnd
close (AtFault e) rest = AtFault e

abbrev pub closed : Option Header → Records → Reading
closed header r = record { header = header; events = r.events; rest = r.rest; stop = close r.stop r.rest }

-- after a whole header: at most so many records
abbrev pub under : Result Header RecordError → ℕ → List ℕ → Reading
under (Err e) most bytes = record { header = None; events = []; rest = bytes; stop = AtFault e }
under (Ok h) most bytes = closed (Some h) (records_of h most (drop HEADER_LENGTH bytes))

-- what is read of bytes where this header was read before, or is still to come
unfoldable pub read_from : Option Header → ℕ → List ℕ → Reading
read_from None most bytes =
    if nat_lt (length bytes) HEADER_LENGTH then record { header = None; events = []; rest = bytes; stop = Inside }
    else under (header_at (take HEADER_LENGTH bytes)) most bytes
read_from (Some h) most bytes = closed None (records_of h most bytes)

-- what is read of the bytes of one stream of at most so many records
abbrev pub reading : ℕ → List ℕ → Reading
reading limit bytes = read_from None limit bytes

-- ---- parts

abbrev pub header_part : Option Header → List Part
header_part None = []
header_part (Some h) = parts.Header h ∷ []

abbrev pub parts_of : Reading → List Part
parts_of r = header_part r.header ++ map parts.Event r.events

-- ---- what a decoder keeps

pub record Standing : Type 0 where
  pub limit : ℕ
  pub header : Option Header
  pub count : ℕ
  pub held : List ℕ
  pub stop : Stop

-- the header that is read now, or was before
abbrev pub either_header : Option Header → Option Header → Option Header
either_header None before = before
either_header (Some h) before = Some h

-- the bytes that are kept for what is not whole yet
abbrev pub held_at : Stop → List ℕ → List ℕ
held_at Inside rest = rest
held_at _ rest = []

-- what is kept of the bytes of a stream
abbrev pub standing : ℕ → Reading → Standing
standing limit r = record { limit = limit; header = either_header r.header None; count = length r.events; held = held_at r.stop r.rest; stop = r.stop }

-- the state of a decoder that was fed these bytes
abbrev pub StandsFor : Standing → List ℕ → Type 0
StandsFor d fed = d ≡ standing d.limit (reading d.limit fed)

-- the bytes of a header or of a record, whichever comes next
abbrev pub unit_length : Option Header → ℕ
unit_length None = HEADER_LENGTH
unit_length (Some h) = record_length h.version

-- what a decoder in this state reads of further bytes, and its state then
abbrev pub still_at : Stop → Standing → List ℕ → Reading
still_at Inside d more = read_from d.header (d.limit - d.count) (d.held ++ more)
still_at AtEnd d more = record { header = None; events = []; rest = more; stop = close AtEnd more }
still_at (AtFault e) d more = record { header = None; events = []; rest = more; stop = AtFault e }

abbrev pub still : Standing → List ℕ → Reading
still d more = still_at d.stop d more

abbrev pub standing_after : Standing → Reading → Standing
standing_after d r = record { limit = d.limit; header = either_header r.header d.header; count = d.count + length r.events; held = held_at r.stop r.rest; stop = r.stop }

-- a decoder that has been fed nothing
abbrev pub fresh : ℕ → Standing
fresh limit = record { limit = limit; header = None; count = 0; held = []; stop = Inside }

-- fewer bytes are kept than a header or a record has, and none after an end or a fault
abbrev pub IsHeldOk : Stop → Option Header → List ℕ → Type 0
IsHeldOk Inside header held = length held < unit_length header
IsHeldOk AtEnd header held = held ≡ []
IsHeldOk (AtFault e) header held = (held ≡ []) × (e ≢ errors.Memory)

abbrev pub IsCountOk : Option Header → ℕ → ℕ → Type 0
IsCountOk None count limit = count ≡ 0
IsCountOk (Some h) count limit = count ≤ limit

-- the states that a decoder may have
pub record IsStanding (d : Standing) : Type 0 where
  pub some : 1 ≤ d.limit
  pub limit : d.limit ≤ MOST_RECORDS
  pub count : IsCountOk d.header d.count d.limit
  pub held : IsHeldOk d.stop d.header d.held

-- the bytes that are missing to a whole header or record
abbrev pub missing_at : Stop → Option Header → List ℕ → ℕ
missing_at Inside header held = unit_length header - length held
missing_at _ header held = 0

abbrev pub missing : Standing → ℕ
missing d = missing_at d.stop d.header d.held

-- ---- a piece, part by part

-- two states, each with bytes that are still to come and parts that are listed, lead to the same
pub record Continues (d : Standing) (more : List ℕ) (listed : List Part) (e : Standing) (rest : List ℕ) (longer : List Part) : Type 0 where
  pub stands : standing_after d (still d more) ≡ standing_after e (still e rest)
  pub parts : listed ++ parts_of (still d more) ≡ longer ++ parts_of (still e rest)

-- how many headers and records so many bytes may complete; a header may be that of the version with the shorter records
abbrev pub units_in : Option Header → ℕ → ℕ
units_in None bytes = if nat_lt bytes HEADER_LENGTH then 0 else 1 + (bytes - HEADER_LENGTH) / RECORD_LENGTH
units_in (Some h) bytes = bytes / record_length h.version

-- why reading stops after a record, or that it goes on
abbrev pub stop_behind : Bool → Stop
stop_behind true = AtEnd
stop_behind false = Inside

-- ---- what a decoder returns

abbrev pub answer : Stop → Result (Unit {0}) RecordError
answer Inside = Ok tt
answer AtEnd = Ok tt
answer (AtFault e) = Err e

abbrev pub last_answer : Stop → Result (Unit {0}) RecordError
last_answer Inside = Err errors.Truncated
last_answer AtEnd = Ok tt
last_answer (AtFault e) = Err e

-- a list grew by what a longer list has more than a shorter one
abbrev pub GrowsAs : List Part → List Part → List Part → List Part → Type 0
GrowsAs shorter longer old new = (more : List Part) × (longer ≡ shorter ++ more) × (new ≡ old ++ more)

-- a growth was not refused
abbrev pub HasMemory : Result (Unit {0}) RecordError → Type 0
HasMemory result = result ≢ Err errors.Memory
