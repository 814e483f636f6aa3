-- The outcome of a stream is the same, read piece by piece or as a whole.
use Rattle.gr_model.proofs.Common.{◌≡◌, ℕ, ◌≤◌, List, [], length, take, drop, Some, Result, Ok, Err, refl, arith, le-ltb}
use Rattle.gr_streams.specs.Types.{Event, MOST_RECORDS, RecordError, Header, Inside, AtEnd, AtFault, HEADER_LENGTH}
use Rattle.gr_record.specs.declared.error.RecordError.TheVariants as errors
use Rattle.gr_record.specs.declared.stop.Stop.{Stop}
use Rattle.gr_record.specs.Prelude.{closed, read_from, reading, records_of, header_at, front_header_at, front_records_at, up_to}
use Rattle.gr_intake.specs.Joined.{at_place}
use Rattle.gr_intake.proofs.Accepted.{AreRead, records_read}
use Rattle.gr_streams.specs.Records.{events_at}
use Rattle.gr_intake.proofs.Seen.{own_bytes}

-- what a stream is, by where its reading stops
abbrev pub told_by : Stop → List Event → Result (List Event) RecordError
told_by AtEnd events = Ok events
told_by Inside events = Err errors.Truncated
told_by (AtFault e) events = Err e

-- the events of a stream that is read piece by piece
pub events_told : (place : ℕ) (bytes : List ℕ) → events_at place bytes ≡ at_place place (told_by (reading MOST_RECORDS bytes).stop (reading MOST_RECORDS bytes).events)
unfolding events_at front_header_at front_records_at read_from
events_told place bytes = grind (arith, own_bytes bytes)

-- ---- whole streams

-- a stream of this header that was read to its end is one that its group may have
pub read_to_end : (bytes : List ℕ) (h : Header) → HEADER_LENGTH ≤ length bytes → header_at (take HEADER_LENGTH bytes) ≡ Ok h → (reading MOST_RECORDS bytes).stop ≡ AtEnd → AreRead h.items MOST_RECORDS (reading MOST_RECORDS bytes).events
unfolding read_from
read_to_end bytes h long is end =
    let r = records_of h MOST_RECORDS (drop HEADER_LENGTH bytes) in
    let short : reading MOST_RECORDS bytes ≡ closed (Some h) r = rw (le-ltb (length bytes) HEADER_LENGTH long, is) refl in
    let all : up_to r.stop r.events r.rest ≡ Ok (r.events, []) = grind (arith, short, end) in
    rw short (records_read h MOST_RECORDS (drop HEADER_LENGTH bytes) r.events [] all)
