-- Streams that follow one another, or the first fault among them.
-- Source: docs/FORMATS.md, "Several streams".
use Rattle.std.specs.Prelude.{ℕ, zero, suc, not, ◌==◌, if◌then◌else◌, List, [], ◌∷◌, ◌++◌, length, map, Result, Ok, Err}
use Rattle.std.specs.List.{list_any}
use Rattle.gr_intake.specs.Types.{Event, RecordError, Header, Fault}
use Rattle.gr_record.specs.declared.fault.Fault.TheVariants as faults
use Rattle.gr_record.specs.Prelude.{front_header_at, front_records_at}

-- a stream, wherever it lies in memory
pub record Flat : Type 0 where
  pub header : Header
  pub events : List Event

infixl 10 ◌>>=◌
abbrev pub ◌>>=◌ : {X Y : Type 0} → Result X Fault → (X → Result Y Fault) → Result Y Fault
(Ok x) >>= f = f x
(Err e) >>= f = Err e

-- an error of the stream at this place
abbrev pub at_place : {X : Type 0} → ℕ → Result X RecordError → Result X Fault
at_place place (Ok x) = Ok x
at_place place (Err e) = Err (faults.Stream place e)

-- a header, unless its group is one of these headers', or its launch is another
abbrev pub unless_seen : List Header → Header → Result Header Fault
unless_seen seen h =
    if list_any (λ s. s.group == h.group) seen then Err (faults.SameGroup (length seen))
    else if list_any (λ s. not (s.launch == h.launch)) seen then Err (faults.OtherLaunch (length seen))
    else Ok h

-- the header at the front of the bytes, after these headers, and the bytes after it
unfoldable pub header_after : List Header → List ℕ → Result (Header × List ℕ) Fault
header_after seen bytes = at_place (length seen) (front_header_at bytes) >>= λ x. unless_seen seen x.0 >>= λ h. Ok (h, x.1)

abbrev pub headers_in : List Flat → List Header
headers_in seen = map (λ s. s.header) seen

-- the stream at the front of the bytes, after these streams, and the bytes after it
unfoldable pub stream_at : List Flat → List ℕ → Result (Flat × List ℕ) Fault
stream_at seen bytes =
    header_after (headers_in seen) bytes >>= λ h.
    at_place (length seen) (front_records_at h.0 h.1) >>= λ r. Ok (record { header = h.0; events = r.0 }, r.1)

-- these streams, and at most n that follow in the bytes
unfoldable pub joined_at : ℕ → List Flat → List ℕ → Result (List Flat) Fault
joined_at zero seen bytes = Ok seen
joined_at (suc n) seen bytes =
    if length bytes == 0 then Ok seen
    else stream_at seen bytes >>= λ s. joined_at n (seen ++ s.0 ∷ []) s.1

-- the streams in the bytes; each has a byte at least
abbrev pub joined_of : List ℕ → Result (List Flat) Fault
joined_of bytes = joined_at (length bytes) [] bytes
