-- Where in a stream its fault is.
-- Source: docs/OUTPUT.md, "check".
use Rattle.std.specs.Prelude.{ℕ, ◌-◌, List, length, Result, Ok, Err}
use Rattle.gr_places.specs.Types.{MOST_RECORDS, RecordError, Header, Spot}
use Rattle.gr_record.specs.declared.error.RecordError.TheVariants.{AfterEnd}
use Rattle.gr_record.specs.Prelude.{front_header_at, records_of}
use Rattle.gr_places.specs.declared.spot.Spot.TheVariants as spots

-- a fault after a header: if it is after the end, it has no record number
abbrev pub behind_header : RecordError → ℕ → ℕ → Spot
behind_header AfterEnd number byte = spots.Behind byte
behind_header e number byte = spots.Record number byte

abbrev pub spot_in : RecordError → Result (Header × List ℕ) RecordError → ℕ → Spot
spot_in e (Err d) size = spots.Header
spot_in e (Ok h) size = let r = records_of h.0 MOST_RECORDS h.1 in behind_header e (length r.events) (size - length r.rest)

-- where a stream has this fault: at its header, if no header can be read; else after the records that are read, at the first byte that is left
abbrev pub spot : RecordError → List ℕ → Spot
spot e bytes = spot_in e (front_header_at bytes) (length bytes)
