-- What a vector clock counts: of each work-item, a number of its events.
-- Source: docs/MODEL.md, "Clocks". After Mattern, Virtual Time and Global States of Distributed Systems, 1988.
use Rattle.std.specs.Prelude.{◌≡◌, ℕ, ◌+◌, max, List, [], ◌∷◌, map, length, if◌then◌else◌}
use Rattle.gr_model.specs.declared.event.ItemId.{ItemId}
use Rattle.gr_model.specs.Prelude.{put}
use Rattle.gr_clocks.specs.Rows.{entry_of, same_item}

-- a clock: for each group, the counts of its items. It may lack groups and items of which it counts nothing
abbrev pub Counts : Type 0
Counts = List (List ℕ)

-- the count of an item, or 0 where the clock lacks the item
abbrev pub count_of : Counts → ItemId → ℕ
count_of c i = entry_of 0 c i

-- how many items of each group a clock counts
abbrev pub sizes_of : Counts → List ℕ
sizes_of c = map length c

-- what a tick of item i adds to the count of item j
abbrev pub tick_at : ItemId → ItemId → ℕ
tick_at i j = if same_item i j then 1 else 0

-- the clock of a shape that has counted nothing
pub record IsZero (sizes : List ℕ) (c : Counts) : Type 0 where
  pub shape : sizes_of c ≡ sizes
  pub zero : (j : ItemId) → count_of c j ≡ 0

-- after has the same groups and items, and counts one more event of item i than before
pub record IsTick (before : Counts) (i : ItemId) (after : Counts) : Type 0 where
  pub shape : sizes_of after ≡ sizes_of before
  pub counts : (j : ItemId) → count_of after j ≡ count_of before j + tick_at i j

-- two clocks count the same
abbrev pub CountSame : Counts → Counts → Type 0
CountSame c d = (j : ItemId) → count_of c j ≡ count_of d j

-- after counts one more event of item i than before, and as many of the others
pub record CountsOneMore (before : Counts) (i : ItemId) (after : Counts) : Type 0 where
  pub counts : (j : ItemId) → count_of after j ≡ count_of before j + tick_at i j

-- joined has the greater count of each item
pub record IsJoin (mine theirs joined : Counts) : Type 0 where
  pub counts : (j : ItemId) → count_of joined j ≡ max (count_of mine j) (count_of theirs j)

-- the greatest count of an item among some clocks
abbrev pub greatest_count : List Counts → ItemId → ℕ
greatest_count [] j = 0
greatest_count (c ∷ clocks) j = max (count_of c j) (greatest_count clocks j)

-- joined has the greatest count of each item, of mine and all of theirs
pub record IsJoinOfAll (mine : Counts) (theirs : List Counts) (joined : Counts) : Type 0 where
  pub counts : (j : ItemId) → count_of joined j ≡ max (count_of mine j) (greatest_count theirs j)

-- a group has so many items, of whom nothing is counted, and of all others as much as before
pub record AddsCounts (before : Counts) (group n : ℕ) (after : Counts) : Type 0 where
  pub shape : sizes_of after ≡ put 0 (sizes_of before) group n
  pub counts : CountSame after before
