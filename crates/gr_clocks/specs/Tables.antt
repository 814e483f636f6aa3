-- The clocks of a launch's work-items in one memory, and what an event does to them.
-- Source: docs/MODEL.md, "Clocks".
use Rattle.std.specs.Prelude.{◌≡◌, ◌≢◌, ◌⊎◌, ℕ, ◌+◌, ◌<◌, ◌≤◌, max, Bool, true, false, List, [], map, length, slice_index, slice_index_or}
use Rattle.gr_model.specs.declared.event.ItemId.{ItemId}
use Rattle.gr_model.specs.Prelude.{put, HasItem}
use Rattle.gr_clocks.specs.declared.clock.TheConstants.{LARGEST_COUNT}
use Rattle.gr_clocks.specs.Rows.{entry_of}
use Rattle.gr_clocks.specs.Counts.{Counts, count_of, greatest_count, tick_at, CountsOneMore}
use Rattle.gr_clocks.specs.Owned.{OwnedClock, no_clock}
use Rattle.gr_clocks.specs.Groups.{GroupClocks, no_group}
pub use Rattle.gr_clocks.specs.Groups.{item_of, greatest}

-- for each group, the clocks of its items
abbrev pub ClockTable : Type 0
ClockTable = List (List OwnedClock)

-- the clock of an item
abbrev pub clock_at : ClockTable → ItemId → Counts
clock_at t i = (entry_of no_clock t i).counts

-- new clocks of a shape, which have counted nothing
pub record AreZero (sizes : List ℕ) (t : ClockTable) : Type 0 where
  pub shape : map length t ≡ sizes
  pub clocks : (i j : ItemId) → HasItem sizes i → count_of (clock_at t i) j ≡ 0

-- an item's count of its own events is as great as it may be
abbrev pub IsItemFull : ClockTable → ItemId → Type 0
IsItemFull t i = count_of (clock_at t i) i ≡ LARGEST_COUNT

abbrev pub IsGroupFull : ClockTable → ℕ → Type 0
IsGroupFull t group = (k : ℕ) × (k < slice_index (map length t) group) × IsItemFull t (item_of group k)

-- a group has so many items, whose clocks have counted nothing, and no other clock changes
pub record AddsItems (old : ClockTable) (group n : ℕ) (new : ClockTable) : Type 0 where
  pub shape : map length new ≡ put 0 (map length old) group n
  pub fresh : (k : ℕ) (j : ItemId) → k < n → count_of (clock_at new (item_of group k)) j ≡ 0
  pub others : (i : ItemId) → i.group ≢ group → clock_at new i ≡ clock_at old i

-- ---- an event of one item: no other clock changes

-- the item ticks
pub record TicksItem (old : ClockTable) (i : ItemId) (new : ClockTable) : Type 0 where
  pub shape : map length new ≡ map length old
  pub item : CountsOneMore (clock_at old i) i (clock_at new i)
  pub others : (j : ItemId) → j ≢ i → clock_at new j ≡ clock_at old j

-- the item gets this clock
pub record PutsClock (old : ClockTable) (i : ItemId) (clock : Counts) (new : ClockTable) : Type 0 where
  pub shape : map length new ≡ map length old
  pub item : clock_at new i ≡ clock
  pub others : (j : ItemId) → j ≢ i → clock_at new j ≡ clock_at old j

-- after counts all that mine and all of theirs count, and one more event of item i
pub record IsTickOfJoin (mine : Counts) (theirs : List Counts) (i : ItemId) (after : Counts) : Type 0 where
  pub counts : (j : ItemId) → count_of after j ≡ max (count_of mine j) (greatest_count theirs j) + tick_at i j

-- the item learns what other clocks count, and then ticks once
pub record LearnsAndTicks (old : ClockTable) (i : ItemId) (theirs : List Counts) (new : ClockTable) : Type 0 where
  pub shape : map length new ≡ map length old
  pub item : IsTickOfJoin (clock_at old i) theirs i (clock_at new i)
  pub others : (j : ItemId) → j ≢ i → clock_at new j ≡ clock_at old j

-- ---- a barrier of one group: no clock of another group changes

-- each item of the group ticks
pub record TicksGroup (old : ClockTable) (group : ℕ) (new : ClockTable) : Type 0 where
  pub shape : map length new ≡ map length old
  pub items : (k : ℕ) → k < slice_index (map length old) group → CountsOneMore (clock_at old (item_of group k)) (item_of group k) (clock_at new (item_of group k))
  pub others : (j : ItemId) → j.group ≢ group → clock_at new j ≡ clock_at old j

-- the count of item j in the join of the clocks of a group's items, each with one more event of its item
abbrev pub joined_count : ClockTable → ℕ → ItemId → ℕ
joined_count t group j = greatest (slice_index (map length t) group) (λ k. count_of (clock_at t (item_of group k)) j + tick_at (item_of group k) j)

-- each item of the group ticks, and then learns what all of them count
pub record JoinsGroup (old : ClockTable) (group : ℕ) (new : ClockTable) : Type 0 where
  pub shape : map length new ≡ map length old
  pub counts : (k : ℕ) (j : ItemId) → k < slice_index (map length old) group → count_of (clock_at new (item_of group k)) j ≡ joined_count old group j
  pub others : (j : ItemId) → j.group ≢ group → clock_at new j ≡ clock_at old j

-- what a barrier does to the clocks of its group in a memory that it flags, or does not flag
abbrev pub MeetsGroup : ClockTable → ℕ → Bool → ClockTable → Type 0
MeetsGroup old group true new = JoinsGroup old group new
MeetsGroup old group false new = TicksGroup old group new

-- ---- parts of a barrier

-- the item is of another group, or none of the first n of this one
abbrev pub IsBeyond : ℕ → ℕ → ItemId → Type 0
IsBeyond group n j = (j.group ≢ group) ⊎ (n ≤ j.item)

-- ---- a table by its groups

-- a group, as the table has it
abbrev pub group_at : ClockTable → ℕ → GroupClocks
group_at t group = record { number = group; clocks = slice_index_or t group [] }

-- the clocks of the groups
abbrev pub table_of : List GroupClocks → ClockTable
table_of groups = map (λ g. g.clocks) groups

-- each group has its place for its number
abbrev pub AreGroups : List GroupClocks → Type 0
AreGroups groups = (p : ℕ) → p < length groups → slice_index_or groups p no_group ≡ group_at (table_of groups) p
