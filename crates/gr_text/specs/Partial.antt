-- The headers and records in bytes before their first fault, and their text.
-- Source: docs/FORMATS.md, "Text form".
use Rattle.std.specs.Prelude.{◌≡◌, ◌⊎◌, ℕ, zero, suc, List, [], ◌∷◌, ◌++◌, length, map, All, Option, None, Some, Result, Ok, Err, IsFalse}
use Rattle.std.specs.Option.{option_map_or}
use Rattle.std.specs.List.{flat_map}
use Rattle.gr_text.specs.Types.{MOST_RECORDS, SitedLine, RecordError, Header, Stop, AtEnd}
use Rattle.gr_model.specs.Prelude.{is_complete}
use Rattle.gr_record.specs.declared.fault.Fault.TheVariants as faults
use Rattle.gr_record.specs.Prelude.{records_of, AreBytes, IsPrefix, all_sited, events_of, events_spelling, front_header_at, front_records_at, stream_spelling}
use Rattle.gr_text.specs.Texts.{header_line, record_line, whole_line}
use Rattle.gr_text.specs.Dumps.{WholeStream, parts_in, dumped}
use Rattle.gr_text.specs.Wholes.{IsWhole, bytes_of, text_of}

-- ---- one stream

-- the header and the records before a fault, and the bytes after the end where there is one
pub record Front : Type 0 where
  pub lines : List SitedLine
  pub behind : Option (List ℕ)

-- the bytes that are left after an end
abbrev pub behind_end : Stop → List ℕ → Option (List ℕ)
behind_end AtEnd rest = Some rest
behind_end _ rest = None

-- a stream from its header on, where one is read: its records as far as they are read
abbrev pub front_behind : Result (Header × List ℕ) RecordError → Front
front_behind (Err e) = record { lines = []; behind = None }
front_behind (Ok h) =
    let r = records_of h.0 MOST_RECORDS h.1 in
    record { lines = header_line h.0 ∷ map record_line (all_sited h.0.version r.events h.1); behind = behind_end r.stop r.rest }

-- the stream at the front of the bytes
abbrev pub front_at : List ℕ → Front
front_at bytes = front_behind (front_header_at bytes)

-- ---- all streams

-- the headers and records of at most so many streams, before a fault
unfoldable pub lines_before : ℕ → List ℕ → List SitedLine
lines_before zero bytes = []
lines_before (suc most) bytes = (front_at bytes).lines ++ option_map_or (λ rest. lines_before most rest) (front_at bytes).behind []

-- the text of the headers and records before the first fault; each stream has a byte at least
abbrev pub text_before_fault : List ℕ → List ℕ
text_before_fault bytes = flat_map whole_line (lines_before (length bytes) bytes)

-- ---- laws

-- bytes without a fault have all of their text before it
abbrev pub WholeStreamsStandWhole : Type 0
WholeStreamsStandWhole = (bytes text : List ℕ) → dumped bytes ≡ Ok text → text_before_fault bytes ≡ text

-- a header that is no header, and nothing before it; or a header and records that no end follows, and after them what is refused
abbrev pub IsRefusedAtHeader : RecordError → List ℕ → List SitedLine → Type 0
IsRefusedAtHeader e bytes xs = (front_header_at bytes ≡ Err e) × (xs ≡ [])

pub record IsRefusedBehind (e : RecordError) (bytes : List ℕ) (xs : List SitedLine) : Type 0 where
  pub stream : WholeStream
  pub prefix : IsPrefix MOST_RECORDS stream.header stream.records
  pub unended : IsFalse (is_complete (events_of stream.records))
  pub left : List ℕ
  pub parts : bytes ≡ stream_spelling stream.header stream.records ++ left
  pub refused : front_records_at stream.header (events_spelling stream.header.version stream.records ++ left) ≡ Err e
  pub lines : xs ≡ parts_in stream

-- whole streams, then the bytes of the stream at fault, and what that stream has before its fault
pub record StandsBefore (place : ℕ) (e : RecordError) (bytes text : List ℕ) : Type 0 where
  pub streams : List WholeStream
  pub whole : All IsWhole streams
  pub count : length streams ≡ place
  pub rest : List ℕ
  pub parts : bytes ≡ bytes_of streams ++ rest
  pub lines : List SitedLine
  pub front : IsRefusedAtHeader e rest lines ⊎ IsRefusedBehind e rest lines
  pub is : text ≡ text_of streams ++ flat_map whole_line lines

-- the text of refused bytes is that of what comes before their fault
abbrev pub RefusedIsToldUpToItsFault : Type 0
RefusedIsToldUpToItsFault = (bytes : List ℕ) (place : ℕ) (e : RecordError) → AreBytes bytes → dumped bytes ≡ Err (faults.Stream place e) → StandsBefore place e bytes (text_before_fault bytes)
