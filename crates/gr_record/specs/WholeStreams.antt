-- What is at the front of a list of bytes: a header, or the records of a stream up to its end; and the bytes after it.
-- Source: docs/FORMATS.md, "Stream".
use Rattle.std.specs.Prelude.{◌≡◌, ℕ, List, ◌++◌, length, drop, nat_lt, Result, Ok, Err, if◌then◌else◌}
use Rattle.gr_record.specs.Types.{Event, MOST_RECORDS, RecordError, Header, HEADER_LENGTH, Stop, Inside, AtEnd, AtFault}
use Rattle.gr_record.specs.declared.error.RecordError.TheVariants as errors
use Rattle.gr_record.specs.Sites.{Sited}
use Rattle.gr_record.specs.Spelling.{header_spelling, events_spelling}
use Rattle.gr_record.specs.Reading.{header_at}
use Rattle.gr_record.specs.Fronts.{Records, records_of}

infixl 10 ◌>>=◌
abbrev pub ◌>>=◌ : {X Y : Type 0} → Result X RecordError → (X → Result Y RecordError) → Result Y RecordError
(Ok x) >>= f = f x
(Err e) >>= f = Err e

-- what a function returned, seen by view, is what the bytes mean, unless memory ran out
abbrev pub Fails : {Y : Type 0} → RecordError → Result Y RecordError → Type 0
Fails errors.Memory meaning = Unit {0}
Fails e meaning = meaning ≡ Err e

abbrev pub Gives : {X Y : Type 0} → (X → Y) → Result X RecordError → Result Y RecordError → Type 0
Gives view (Ok x) meaning = meaning ≡ Ok (view x)
Gives view (Err e) meaning = Fails e meaning

-- ---- whole streams

-- records up to an end are all that a stream has; records that no end follows are too few
abbrev pub up_to : Stop → List Event → List ℕ → Result (List Event × List ℕ) RecordError
up_to AtEnd events rest = Ok (events, rest)
up_to Inside events rest = Err errors.Truncated
up_to (AtFault e) events rest = Err e

abbrev pub whole : Records → Result (List Event × List ℕ) RecordError
whole r = up_to r.stop r.events r.rest

-- the header at the front of the bytes, and the bytes after it
unfoldable pub front_header_at : List ℕ → Result (Header × List ℕ) RecordError
front_header_at bytes =
    if nat_lt (length bytes) HEADER_LENGTH then Err errors.Truncated
    else header_at bytes >>= λ h. Ok (h, drop HEADER_LENGTH bytes)

-- the records of the stream of this header, at the front of the bytes up to the end, and the bytes after them
unfoldable pub front_records_at : Header → List ℕ → Result (List Event × List ℕ) RecordError
front_records_at h bytes = whole (records_of h MOST_RECORDS bytes)

-- the bytes after these records
abbrev pub behind_records_at : Header → List ℕ → Result (List ℕ) RecordError
behind_records_at h bytes = front_records_at h bytes >>= λ x. Ok x.1

-- ---- what a stream is, by its spelling

abbrev pub stream_spelling : Header → List Sited → List ℕ
stream_spelling h records = header_spelling h ++ events_spelling h.version records
