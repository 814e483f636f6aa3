-- Streams of which records are to come, and a sequencer that takes some of them.
use Rattle.std.specs.Prelude.{◌≡◌, ◌≢◌, ℕ, ◌<◌, Bool, List, [], ◌++◌, All, AllPairs, IsFalse, IsTrue, length, map, slice_index, slice_index_or}
use Rattle.gr_model.specs.declared.event.Event.{Event}
use Rattle.gr_model.specs.Prelude.{Streams, IsPrefix, list_of, size_of}
use Rattle.gr_taking.specs.Taken.{with_list}

-- records of a group that are to come
pub record ListedRecords : Type 0 where
  pub group : ℕ
  pub records : List Event

-- the lists of a launch's groups, of which all records are to come
pub record AreListsOf (s : Streams) (sources : List ListedRecords) : Type 0 where
  pub count : length sources ≡ length s.sizes
  pub each : (g : ℕ) (d : ListedRecords) → g < length sources → slice_index_or sources g d ≡ record { group = g; records = list_of s g }

-- ---- one stream

-- a group that is there may have what was taken of it and is to come
pub record MayTake (s : Streams) (g : ℕ) (coming : List Event) : Type 0 where
  pub there : g < length s.lists
  pub prefix : IsPrefix (size_of s g) (list_of s g ++ coming)

-- the first of a group's records to come were taken: those after them are still to come
abbrev pub AreTakenFrom : Streams → ℕ → List Event → Streams → List Event → Type 0
AreTakenFrom s g old t new = (list : List Event) × (old ≡ list ++ new) × (t ≡ with_list s g (list_of s g ++ list))

-- they were taken in a turn: one at least, or else none is to come
pub record IsTurn (took : Bool) (s : Streams) (g : ℕ) (old : List Event) (t : Streams) (new : List Event) : Type 0 where
  pub from : AreTakenFrom s g old t new
  pub some : IsTrue took → length new < length old
  pub none : IsFalse took → new ≡ []

-- ---- several streams, each with what is known of it, the group that this tells, and its records to come

-- what is known of a stream, with what was taken of its group and is to come
abbrev pub come_of : {X Y : Type 0} → (X → Y) → (Y → ℕ) → (X → List Event) → Streams → X → Y × List Event
come_of header group coming taken x = (header x, list_of taken (group (header x)) ++ coming x)

abbrev pub come_from : {X Y : Type 0} → (X → Y) → (Y → ℕ) → (X → List Event) → Streams → List X → List (Y × List Event)
come_from header group coming taken xs = map (come_of header group coming taken) xs

-- streams of groups that differ and are there, each of which may have its records
pub record MayCome {Y : Type 0} (group : Y → ℕ) (sizes : List ℕ) (streams : List (Y × List Event)) : Type 0 where
  pub there : All (λ f. group f.0 < length sizes) streams
  pub prefixes : All (λ f. IsPrefix (slice_index sizes (group f.0)) f.1) streams
  pub differ : AllPairs (λ f g. group f.0 ≢ group g.0) streams
