-- What is remembered of a launch's streams: all that was taken, without the first instances of each group's barriers. An instance is
-- forgotten once all items of its group have passed it; it is kept which of the forgotten ones are divergent.
-- Source: docs/MODEL.md, "Barriers".
use Rattle.std.specs.Prelude.{◌≡◌, ℕ, ◌+◌, ◌<◌, ◌≤◌, List, [], ◌∷◌, ◌++◌, Some, length, slice_index_or, slice_set}
use Rattle.gr_model.specs.declared.event.EventId.{EventId}
use Rattle.gr_model.specs.declared.event.ItemId.{ItemId}
use Rattle.gr_model.specs.declared.report.Divergence.{Divergence}
use Rattle.gr_model.specs.Prelude.{arrivals, is_barrier, put, Mark, DivergenceBelow, IsDivergence, Lists, Streams, place_of, size_of}
use Rattle.gr_model.specs.Groups as model

-- what was taken; how many of the first instances of each group are forgotten, and which of those are divergent
pub record Remembered : Type 0 where
  pub streams : Streams
  pub forgotten : List ℕ
  pub decided : List (List Divergence)

abbrev pub forgotten_of : Remembered → ℕ → ℕ
forgotten_of r g = slice_index_or r.forgotten g 0

abbrev pub decided_of : Remembered → ℕ → List Divergence
decided_of r g = slice_index_or r.decided g []

-- there is a count and a list for each group
pub record IsOfGroups (r : Remembered) : Type 0 where
  pub forgotten : length r.forgotten ≡ length r.streams.sizes
  pub decided : length r.decided ≡ length r.streams.sizes

-- nothing is forgotten
pub record IsWhole (r : Remembered) : Type 0 where
  pub groups : IsOfGroups r
  pub forgotten : (g : ℕ) → forgotten_of r g ≡ 0
  pub decided : (g : ℕ) → decided_of r g ≡ []

-- these streams, with the same instances forgotten
abbrev pub remembering : Remembered → Streams → Remembered
remembering r s = record { streams = s; forgotten = r.forgotten; decided = r.decided }

-- a group with this many items comes, and nothing of it is forgotten
abbrev pub with_group : Remembered → ℕ → ℕ → Remembered
with_group r g n = record { streams = model.with_group r.streams g n; forgotten = put 0 r.forgotten g 0; decided = put [] r.decided g [] }

-- one more instance of a group is forgotten, which is not divergent
abbrev pub forgetting : Remembered → ℕ → Remembered
forgetting r g = record { streams = r.streams; forgotten = slice_set r.forgotten g (forgotten_of r g + 1); decided = r.decided }

-- one more instance of a group is forgotten, which is divergent
abbrev pub deciding : Remembered → Divergence → Remembered
deciding r d = record { streams = r.streams; forgotten = slice_set r.forgotten d.group (forgotten_of r d.group + 1); decided = slice_set r.decided d.group (decided_of r d.group ++ d ∷ []) }

-- if an item has a barrier with this number, its instance is not forgotten
abbrev pub IsRemembered : Remembered → ItemId → ℕ → Type 0
IsRemembered r i k = (p : ℕ) → place_of r.streams is_barrier i k ≡ Some p → forgotten_of r i.group ≤ k

-- if an event is a barrier, its instance is not forgotten
abbrev pub IsEventRemembered : Remembered → EventId → Type 0
IsEventRemembered r e = (k : ℕ) → place_of r.streams is_barrier e.at k ≡ Some e.index → forgotten_of r e.at.group ≤ k

-- nothing that was taken is forgotten
abbrev pub IsAllRemembered : Remembered → Type 0
IsAllRemembered r = (i : ItemId) (k : ℕ) → IsRemembered r i k

-- the group has items, and all of them came to its instance
abbrev pub HaveAllCome : Streams → ℕ → ℕ → Type 0
HaveAllCome s g k = (0 < size_of s g) × ((i : ℕ) → i < size_of s g → (a : Mark) × (arrivals s g k i ≡ Some a))

-- a divergent instance of this group that is forgotten
pub record IsDecided (r : Remembered) (g : ℕ) (d : Divergence) : Type 0 where
  pub divergence : IsDivergence r.streams d
  pub group : d.group ≡ g
  pub below : d.instance < forgotten_of r g

-- all items came to each forgotten instance, and the divergent ones are kept
pub record AreDecided (r : Remembered) : Type 0 where
  pub groups : IsOfGroups r
  pub came : (g k : ℕ) → k < forgotten_of r g → HaveAllCome r.streams g k
  pub lists : (g : ℕ) → Lists DivergenceBelow (IsDecided r g) (decided_of r g)
