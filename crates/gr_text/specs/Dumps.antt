-- What bytes say: streams one after another, or the fault of the first that is refused.
-- Source: docs/FORMATS.md, "Stream" and "Faults".
use Rattle.std.specs.Prelude.{ℕ, zero, suc, ◌+◌, ◌==◌, if◌then◌else◌, List, [], ◌∷◌, ◌++◌, length, map, Result, Ok, Err}
use Rattle.std.specs.List.{flat_map}
use Rattle.gr_text.specs.Types.{RecordError, Fault, SitedLine, Header, Version, One, Two, Form, Text, Long}
use Rattle.gr_record.specs.declared.fault.Fault.TheVariants as faults
use Rattle.gr_record.specs.Prelude.{Sited, all_sited, header_spelling, event_spelling, front_header_at, front_records_at}
use Rattle.gr_text.specs.Texts.{◌>>=◌, header_line, record_line, whole_line}

-- an error of the stream at this place
abbrev pub at_place : {X : Type 0} → ℕ → Result X RecordError → Result X Fault
at_place place (Ok x) = Ok x
at_place place (Err e) = Err (faults.Stream place e)

-- a header, and the records after it, with their sites
pub record WholeStream : Type 0 where
  pub header : Header
  pub records : List Sited

-- its header and its records, one after another
abbrev pub parts_in : WholeStream → List SitedLine
parts_in s = header_line s.header ∷ map record_line s.records

-- the stream at the front of the bytes, and the bytes after it
unfoldable pub stream_at : ℕ → List ℕ → Result (WholeStream × List ℕ) Fault
stream_at place bytes =
    at_place place (front_header_at bytes) >>= λ h.
    at_place place (front_records_at h.0 h.1) >>= λ r. Ok (record { header = h.0; records = all_sited h.0.version r.0 h.1 }, r.1)

-- at most so many streams, the first of which is the one of this place
unfoldable pub streams_at : ℕ → ℕ → List ℕ → Result (List WholeStream) Fault
streams_at zero place bytes = Ok []
streams_at (suc most) place bytes =
    if length bytes == 0 then Ok []
    else stream_at place bytes >>= λ s. streams_at most (place + 1) s.1 >>= λ ss. Ok (s.0 ∷ ss)

-- all streams; each has a byte at least
abbrev pub streams_in : List ℕ → Result (List WholeStream) Fault
streams_in bytes = streams_at (length bytes) 0 bytes

-- ---- the streams in another form

-- the version that streams of this one are upgraded to: version 2 for version 1, and no other for the rest
abbrev pub raised : Version → Version
raised One = Two
raised v = v

-- the header of the same stream, upgraded
abbrev pub upgraded_header : Header → Header
upgraded_header h = record { version = raised h.version; group = h.group; items = h.items; launch = h.launch }

-- a header in this form
abbrev pub formed_header : Form → Header → List ℕ
formed_header Text h = whole_line (header_line h)
formed_header Long h = header_spelling (upgraded_header h)

-- a record of a stream of this version in this form
abbrev pub formed_event : Form → Version → Sited → List ℕ
formed_event Text v = λ r. whole_line (record_line r)
formed_event Long v = event_spelling (raised v)

-- a stream in this form
abbrev pub formed : Form → WholeStream → List ℕ
formed form s = formed_header form s.header ++ flat_map (formed_event form s.header.version) s.records

-- the streams in the bytes, in this form
abbrev pub formed_of : Form → List ℕ → Result (List ℕ) Fault
formed_of form bytes = streams_in bytes >>= λ ss. Ok (flat_map (formed form) ss)

-- their text
abbrev pub dumped : List ℕ → Result (List ℕ) Fault
dumped bytes = formed_of Text bytes

-- their bytes, where those of version 1 are of version 2
abbrev pub upgraded : List ℕ → Result (List ℕ) Fault
upgraded bytes = formed_of Long bytes

-- what was written, with a stream in this form, and the bytes after the stream
abbrev pub with_stream : Form → List ℕ → Result (WholeStream × List ℕ) Fault → Result (List ℕ × List ℕ) Fault
with_stream form prefix s = s >>= λ x. Ok (prefix ++ formed form x.0, x.1)
