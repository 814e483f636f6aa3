-- The clocks of one work-group's items, and what a barrier makes of them.
-- Source: docs/MODEL.md, "Clocks".
use Rattle.std.specs.Prelude.{◌≡◌, ◌≢◌, ℕ, zero, suc, ◌+◌, ◌<◌, ◌≤◌, ◌^◌, max, All, Bool, true, false, List, [], length, set, slice_index, slice_index_or}
use Rattle.gr_model.specs.declared.event.ItemId.{ItemId}
use Rattle.gr_clocks.specs.declared.clock.TheConstants.{LARGEST_COUNT}
use Rattle.gr_clocks.specs.Counts.{Counts, count_of, tick_at, CountsOneMore, CountSame}
use Rattle.gr_clocks.specs.Owned.{OwnedClock, no_clock}

-- the item of a group at a place
abbrev pub item_of : ℕ → ℕ → ItemId
item_of group item = record { group = group; item = item }

-- the greatest of the first n numbers
abbrev pub greatest : ℕ → (ℕ → ℕ) → ℕ
greatest zero f = 0
greatest (suc n) f = max (f n) (greatest n f)

-- the number of a group, and the clocks of its items
pub record GroupClocks : Type 0 where
  pub number : ℕ
  pub clocks : List OwnedClock

-- what is read where there is no group
abbrev pub no_group : GroupClocks
no_group = record { number = 0; clocks = [] }

abbrev pub owned_in_group : GroupClocks → ℕ → OwnedClock
owned_in_group g k = slice_index_or g.clocks k no_clock

abbrev pub clock_in_group : GroupClocks → ℕ → Counts
clock_in_group g k = (owned_in_group g k).counts

-- the group with this clock for an item
abbrev pub with_clock : GroupClocks → ℕ → OwnedClock → GroupClocks
with_clock g k c = record { number = g.number; clocks = set g.clocks k c }

-- ---- what a group keeps

-- c is item i's own, and counts what was met, and no more but of item i where the item learned nothing since
pub record Keeps (met : Counts) (i : ItemId) (learned : Bool) (c : OwnedClock) : Type 0 where
  pub owner : c.owner ≡ i
  pub least : (j : ItemId) → count_of met j ≤ count_of c.counts j
  pub most : learned ≡ false → (j : ItemId) → i ≢ j → count_of c.counts j ≤ count_of met j

-- a clock for each item of the group, a mark for each, and what was met
pub record IsGroup (number : ℕ) (met : Counts) (clocks : List OwnedClock) (learned : List Bool) : Type 0 where
  pub few : length clocks < 2 ^ 16
  pub marks : length learned ≡ length clocks
  pub each : (k : ℕ) → k < length clocks → Keeps met (item_of number k) (slice_index_or learned k false) (slice_index_or clocks k no_clock)

-- the place of the first item that learned something
pub record IsFirstLearned (learned : List Bool) (first : ℕ) : Type 0 where
  pub there : first < length learned
  pub before : (k : ℕ) → k < first → slice_index_or learned k false ≡ false
  pub is : slice_index_or learned first false ≡ true

-- a group of so many items, who all count the same
pub record IsShared (met : Counts) (group count : ℕ) (g : GroupClocks) : Type 0 where
  pub number : g.number ≡ group
  pub size : length g.clocks ≡ count
  pub each : (k : ℕ) → k < length g.clocks → CountSame (clock_in_group g k) met

-- ---- an event of one item

-- the count that an item has of its own events is as great as it may be
abbrev pub IsFullClock : GroupClocks → ℕ → Type 0
IsFullClock g k = count_of (clock_in_group g k) (item_of g.number k) ≡ LARGEST_COUNT

abbrev pub HasFullClock : GroupClocks → Type 0
HasFullClock g = (k : ℕ) × (k < length g.clocks) × IsFullClock g k

-- the item ticks, and nothing else changes
pub record TicksClock (old : GroupClocks) (k : ℕ) (new : GroupClocks) : Type 0 where
  pub group : new ≡ with_clock old k (owned_in_group new k)
  pub tick : CountsOneMore (clock_in_group old k) (item_of old.number k) (clock_in_group new k)

-- after counts no less than before, and where item i learned nothing, just one more event of its own
pub record IsNext (before : Counts) (i : ItemId) (learned : Bool) (after : Counts) : Type 0 where
  pub grown : (j : ItemId) → count_of before j ≤ count_of after j
  pub tick : learned ≡ false → CountsOneMore before i after

-- ---- a barrier

-- the same items
pub record IsSameGroup (old new : GroupClocks) : Type 0 where
  pub number : new.number ≡ old.number
  pub size : length new.clocks ≡ length old.clocks

-- base counts what was met, and what the first n clocks do, their own items aside, and no more than some clock does
pub record MergesFirst (met : Counts) (g : GroupClocks) (n : ℕ) (base : Counts) : Type 0 where
  pub above : (j : ItemId) → count_of met j ≤ count_of base j
  pub least : (k : ℕ) (j : ItemId) → k < n → item_of g.number k ≢ j → count_of (clock_in_group g k) j ≤ count_of base j
  pub most : (j : ItemId) → 0 < length g.clocks → count_of base j ≤ greatest (length g.clocks) (λ k. count_of (clock_in_group g k) j)

-- base counts what all clocks do, their own items aside, and no more than some clock does
pub record Merges (g : GroupClocks) (base : Counts) : Type 0 where
  pub least : (k : ℕ) (j : ItemId) → k < length g.clocks → item_of g.number k ≢ j → count_of (clock_in_group g k) j ≤ count_of base j
  pub most : (j : ItemId) → 0 < length g.clocks → count_of base j ≤ greatest (length g.clocks) (λ k. count_of (clock_in_group g k) j)

-- the count of an item after the barrier
abbrev pub raised_count : GroupClocks → Counts → ℕ → ℕ
raised_count g base k = max (count_of base (item_of g.number k)) (count_of (clock_in_group g k) (item_of g.number k) + 1)

-- those of the first n items
pub record AreRaised (g : GroupClocks) (base : Counts) (n : ℕ) (counts : List ℕ) : Type 0 where
  pub size : length counts ≡ n
  pub each : (k : ℕ) → k < n → slice_index counts k ≡ raised_count g base k
  pub limit : All (λ m. m ≤ LARGEST_COUNT) counts

-- the count of item j in the join of all clocks, each with one more event of its item
abbrev pub met_count : GroupClocks → ItemId → ℕ
met_count g j = greatest (length g.clocks) (λ k. count_of (clock_in_group g k) j + tick_at (item_of g.number k) j)

-- base counts what all of them do, each with one more event of its item
pub record IsMetBase (g : GroupClocks) (base : Counts) : Type 0 where
  pub counts : (j : ItemId) → count_of base j ≡ met_count g j

-- each item ticks
pub record TicksEach (old new : GroupClocks) : Type 0 where
  pub same : IsSameGroup old new
  pub each : (k : ℕ) → k < length old.clocks → CountsOneMore (clock_in_group old k) (item_of old.number k) (clock_in_group new k)

-- each item counts what all of them do
pub record MeetsEach (old new : GroupClocks) : Type 0 where
  pub same : IsSameGroup old new
  pub each : (k : ℕ) → k < length old.clocks → IsMetBase old (clock_in_group new k)
