-- The launch that streams are of, or why they are none.
-- Source: docs/FORMATS.md, "Several streams".
use Rattle.std.specs.Prelude.{◌≡◌, ◌≢◌, ◌⊎◌, ℕ, ◌<◌, List, AllPairs, Contains, slice_index_or, length, slice_get, Some, Ok}
use Rattle.gr_model.specs.Prelude.{IsShapeFault, Streams}
use Rattle.gr_record.specs.declared.fault.Fault.{Fault}
use Rattle.gr_record.specs.declared.fault.Fault.TheVariants as faults
use Rattle.gr_record.specs.Prelude.{Fails}
use Rattle.gr_intake.specs.Joined.{Flat, joined_of}

-- one of the streams is of this group
abbrev pub HasGroup : List Flat → ℕ → Type 0
HasGroup seen g = (f : Flat) × Contains seen f × (f.header.group ≡ g)

-- the groups of s are those of the streams, each with its stream's items and records
pub record IsLaunchOf (seen : List Flat) (s : Streams) : Type 0 where
  pub count : length s.lists ≡ length s.sizes
  pub there : (g : ℕ) → g < length s.sizes → HasGroup seen g
  pub each : (f : Flat) → Contains seen f → (slice_get s.sizes f.header.group ≡ Some f.header.items) × (slice_get s.lists f.header.group ≡ Some f.events)

-- the least group below the greatest that no stream is of
pub record IsLeastMissing (seen : List Flat) (g : ℕ) : Type 0 where
  pub below : (f : Flat) × Contains seen f × (g < f.header.group)
  pub missing : ¬ HasGroup seen g
  pub least : (h : ℕ) → h < g → HasGroup seen h

-- why streams are no launch: a group is missing, or else the sizes are no shape
abbrev pub IsLaunchFault : List Flat → Fault → Type 0
IsLaunchFault seen (faults.MissingGroup g) = IsLeastMissing seen g
IsLaunchFault seen (faults.Shape e) = (s : Streams) × IsLaunchOf seen s × IsShapeFault s.sizes e
IsLaunchFault seen faults.Memory = Unit {0}
IsLaunchFault seen _ = ⊥

-- streams of different groups, in the order of their groups, and each at the place of its group
abbrev pub AreApart : List Flat → Type 0
AreApart fs = AllPairs (λ f g. f.header.group ≢ g.header.group) fs

abbrev pub AreRising : List Flat → Type 0
AreRising fs = AllPairs (λ f g. f.header.group < g.header.group) fs

abbrev pub ArePlaced : List Flat → Type 0
ArePlaced fs = (k : ℕ) (d : Flat) → k < length fs → (slice_index_or fs k d).header.group ≡ k

-- the bytes are streams of this launch
abbrev pub Reads : List ℕ → Streams → Type 0
Reads bytes s = (seen : List Flat) × (joined_of bytes ≡ Ok seen) × IsLaunchOf seen s

-- why bytes are no launch: the first fault from the left, or else why the streams are none; and faults from outside
abbrev pub IsReadFault : List ℕ → Fault → Type 0
IsReadFault bytes f = Fails f (joined_of bytes) ⊎ ((seen : List Flat) × (joined_of bytes ≡ Ok seen) × IsLaunchFault seen f)
