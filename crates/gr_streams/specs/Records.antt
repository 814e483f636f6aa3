-- The records of streams with an input each.
-- Source: docs/FORMATS.md, "Several streams" and "Faults".
use Rattle.std.specs.Prelude.{ℕ, ◌==◌, if◌then◌else◌, List, [], ◌∷◌, ◌++◌, length, Result, Ok, Err}
use Rattle.gr_streams.specs.Types.{Event, Fault}
use Rattle.gr_record.specs.declared.error.RecordError.TheVariants.{AfterEnd}
use Rattle.gr_record.specs.declared.fault.Fault.TheVariants as faults
use Rattle.gr_record.specs.Prelude.{front_header_at, front_records_at}
use Rattle.gr_intake.specs.Joined.{◌>>=◌, at_place}

-- the records of the input at a place, which is one stream
unfoldable pub events_at : ℕ → List ℕ → Result (List Event) Fault
events_at place bytes =
    at_place place (front_header_at bytes) >>= λ h.
    at_place place (front_records_at h.0 h.1) >>= λ r.
    if length r.1 == 0 then Ok r.0 else Err (faults.Stream place AfterEnd)

-- these lists, and those of the inputs
unfoldable pub lists_behind : List (List Event) → List (List ℕ) → Result (List (List Event)) Fault
lists_behind seen [] = Ok seen
lists_behind seen (bytes ∷ inputs) = events_at (length seen) bytes >>= λ events. lists_behind (seen ++ events ∷ []) inputs

abbrev pub lists_of : List (List ℕ) → Result (List (List Event)) Fault
lists_of inputs = lists_behind [] inputs

-- lists, and one more
abbrev pub and_one : Result (List (List Event)) Fault → Result (List Event) Fault → Result (List (List Event)) Fault
and_one lists list = lists >>= λ ls. list >>= λ l. Ok (ls ++ l ∷ [])
