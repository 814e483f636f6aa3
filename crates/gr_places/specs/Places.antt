-- What the fault of files is about.
-- Source: docs/OUTPUT.md, "check".
use Rattle.std.specs.Prelude.{ℕ, List, Option, option_map, slice_get}
use Rattle.gr_places.specs.Types.{Fault, Spot}
use Rattle.gr_record.specs.declared.fault.Fault.TheVariants as faults
use Rattle.gr_places.specs.declared.fault_places.FaultPlace.{FaultPlace}
use Rattle.gr_places.specs.declared.fault_places.FaultPlace.TheVariants as places
use Rattle.gr_places.specs.Neighbours.{first_above, first_like}
use Rattle.gr_places.specs.Spots.{spot}

-- what it is about, with the names of files
pub data PlaceSaid : Type 0 where
  -- a stream, its file, and where in it the fault is
  in_stream : ℕ → Option (List ℕ) → Option Spot → PlaceSaid
  -- a stream, its file, and the file with which it does not fit
  beside : ℕ → Option (List ℕ) → Option (List ℕ) → PlaceSaid
  -- a missing group, and the first file of a greater one
  missing : ℕ → Option (List ℕ) → PlaceSaid
  -- no stream and no group
  nothing : PlaceSaid

abbrev pub place_said : FaultPlace → PlaceSaid
place_said (places.Stream stream file spot) = in_stream stream (option_map (λ s. s.now) file) spot
place_said (places.Beside stream file other) = beside stream (option_map (λ s. s.now) file) (option_map (λ s. s.now) other)
place_said (places.Missing group other) = missing group (option_map (λ s. s.now) other)
place_said places.Nothing = nothing

-- what a fault is about, if the inputs come from files of these names
abbrev pub place_of : List (List ℕ) → List (List ℕ) → Fault → PlaceSaid
place_of names inputs (faults.Stream place e) = in_stream place (slice_get names place) (option_map (spot e) (slice_get inputs place))
place_of names inputs (faults.SameGroup place) = beside place (slice_get names place) (first_like names inputs place)
place_of names inputs (faults.OtherLaunch place) = beside place (slice_get names place) (slice_get names 0)
place_of names inputs (faults.MissingGroup g) = missing g (first_above names inputs g)
place_of names inputs f = nothing
