-- A clock as the counts of all items, and the count of its owner, which replaces the one there.
-- Source: docs/MODEL.md, "Clocks".
use Rattle.std.specs.Prelude.{◌≡◌, ◌≢◌, ℕ, ◌<◌, ◌≤◌, max, List, [], length, slice_index, slice_index_or}
use Rattle.gr_model.specs.declared.event.ItemId.{ItemId}
use Rattle.gr_model.specs.Prelude.{put}
use Rattle.gr_clocks.specs.declared.clock.TheConstants.{LARGEST_COUNT}
use Rattle.gr_clocks.specs.Counts.{Counts, count_of, CountsOneMore}

-- what a clock counts, and its owner: the item whose count it keeps apart, so that a tick of it takes no memory
pub record OwnedClock : Type 0 where
  pub counts : Counts
  pub owner : ItemId

-- what is read where there is no clock
abbrev pub no_clock : OwnedClock
no_clock = record { counts = []; owner = record { group = 0; item = 0 } }

-- the owner's count can grow
abbrev pub HasRoom : OwnedClock → Type 0
HasRoom c = count_of c.counts c.owner ≢ LARGEST_COUNT

-- the owner ticks
pub record TicksOwner (before after : OwnedClock) : Type 0 where
  pub owner : after.owner ≡ before.owner
  pub tick : CountsOneMore before.counts before.owner after.counts

-- the owner of each of some clocks ticks
pub record AreTicked (before after : List OwnedClock) : Type 0 where
  pub size : length after ≡ length before
  pub each : (k : ℕ) → k < length before → TicksOwner (slice_index_or before k no_clock) (slice_index_or after k no_clock)

-- the counts c, but this one of item i
abbrev pub with_count : Counts → ItemId → ℕ → Counts
with_count c i n = put [] c i.group (put 0 (slice_index_or c i.group []) i.item n)

-- the item's count is not below the one that it replaces
pub record IsOwn (base : Counts) (i : ItemId) (n : ℕ) : Type 0 where
  pub above : count_of base i ≤ n
  pub limit : n ≤ LARGEST_COUNT

-- after has the greater of this count and the one before of item i, and the same of the others
pub record IsRaisedTo (before : Counts) (i : ItemId) (n : ℕ) (after : Counts) : Type 0 where
  pub item : count_of after i ≡ max (count_of before i) n
  pub others : (j : ItemId) → i ≢ j → count_of after j ≡ count_of before j

-- after has the greater of each count before and the one that the row has for it, of the items of a group, and the same of the others
pub record IsRaisedBy (before : Counts) (group : ℕ) (row : List ℕ) (after : Counts) : Type 0 where
  pub here : (j : ItemId) → j.group ≡ group → count_of after j ≡ max (count_of before j) (slice_index row j.item)
  pub others : (j : ItemId) → j.group ≢ group → count_of after j ≡ count_of before j
