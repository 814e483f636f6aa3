-- A law of the fault of inputs, and of its place.
use Rattle.std.specs.Prelude.{◌≡◌, ℕ, List, Some, slice_get, Err}
use Rattle.gr_places.specs.Types.{MOST_RECORDS, RecordError}
use Rattle.gr_record.specs.declared.fault.Fault.TheVariants as faults
use Rattle.gr_record.specs.Prelude.{last_answer, reading}
use Rattle.gr_replay.specs.Each.{IsEachFault}

-- a fault of the stream of an input is the fault at which a decoder of its bytes stops: this is the place of the fault
abbrev pub FaultsAreWhereReadingStops : Type 0
FaultsAreWhereReadingStops = (inputs : List (List ℕ)) (place : ℕ) (e : RecordError) → IsEachFault inputs (faults.Stream place e) → (bytes : List ℕ) × (slice_get inputs place ≡ Some bytes) × (last_answer (reading MOST_RECORDS bytes).stop ≡ Err e)
