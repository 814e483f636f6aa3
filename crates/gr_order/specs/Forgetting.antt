-- Which instances of barriers are forgotten.
-- Source: docs/MODEL.md, "Barriers".
use Rattle.std.specs.Prelude.{◌≡◌, ◌⊎◌, ℕ, ◌<◌, List, Some}
use Rattle.gr_order.specs.Types.{EventId, Divergence}
use Rattle.gr_model.specs.Prelude.{IsDivergent, is_barrier, IsIn, IsDivergence, Streams, place_of, size_of}
use Rattle.gr_clocks.specs.Counts.{Counts, count_of}
use Rattle.gr_lanes.specs.Remembered.{AreDecided, Remembered, deciding, forgetting, forgotten_of}
use Rattle.gr_order.specs.Readiness.{IsNextInstance}

-- all items came to each forgotten instance, all its barriers were handled, and the divergent ones are kept
pub record IsForgetting (r : Remembered) (frontier : Counts) : Type 0 where
  pub decided : AreDecided r
  pub handled : (e : EventId) (k : ℕ) → place_of r.streams is_barrier e.at k ≡ Some e.index → k < forgotten_of r e.at.group → e.index < count_of frontier e.at

-- the same by the order in which events were handled
pub record ForgetsHandled (r : Remembered) (order : List EventId) : Type 0 where
  pub decided : AreDecided r
  pub handled : (e : EventId) (k : ℕ) → place_of r.streams is_barrier e.at k ≡ Some e.index → k < forgotten_of r e.at.group → IsIn order e

-- an item's barrier of an instance was taken and handled
abbrev pub HasPassed : Streams → Counts → ℕ → ℕ → ℕ → Type 0
HasPassed s frontier g k i = (p : ℕ) × (place_of s is_barrier (record { group = g; item = i }) k ≡ Some p) × (p < count_of frontier (record { group = g; item = i }))

-- the group has items, and each of them has passed the instance
abbrev pub HaveAllPassed : Streams → Counts → ℕ → ℕ → Type 0
HaveAllPassed s frontier g k = (0 < size_of s g) × ((i : ℕ) → i < size_of s g → HasPassed s frontier g k i)

-- the first instance of a group that is remembered is forgotten, and kept if it is divergent
abbrev pub ForgetsLeast : Remembered → ℕ → Remembered → Type 0
ForgetsLeast old g new =
    ((new ≡ forgetting old g) × ¬ IsDivergent old.streams g (forgotten_of old g))
    ⊎ ((d : Divergence) × (new ≡ deciding old d) × IsDivergence old.streams d × (d.group ≡ g) × (d.instance ≡ forgotten_of old g))

-- nothing more is forgotten, or the group's first instance that is remembered, which all its items have passed
abbrev pub ForgetsPassed : Remembered → Counts → ℕ → Remembered → Type 0
ForgetsPassed old frontier g new = (new ≡ old) ⊎ (HaveAllPassed old.streams frontier g (forgotten_of old g) × ForgetsLeast old g new)

-- nothing more is forgotten, or the instance whose barriers are the next events of the group's items, which is the first one remembered
abbrev pub ForgetsNext : Remembered → Counts → ℕ → Remembered → Type 0
ForgetsNext old frontier g new = (new ≡ old) ⊎ ((new ≡ forgetting old g) × IsNextInstance old.streams frontier g (forgotten_of old g))
