-- How many records of each item, and how many barriers among them, a part of a list has.
use Rattle.std.specs.Prelude.{◌≡◌, ℕ, ◌+◌, ◌<◌, List, Some, filter, if◌then◌else◌, length, slice_get}
use Rattle.gr_timeline.specs.Types.{Event, MOST_RECORDS, Count}
use Rattle.gr_model.specs.Prelude.{is_barrier, is_of}

-- those of an item in a list
abbrev pub counted : List Event → ℕ → Count
counted list i = record { records = length (filter (is_of i) list); barriers = length (filter is_barrier (filter (is_of i) list)) }

-- those of each of so many items
pub record AreCounts (items : ℕ) (list : List Event) (counts : List Count) : Type 0 where
  pub length_is : length counts ≡ items
  pub each : (i : ℕ) → i < items → slice_get counts i ≡ Some (counted list i)

-- both are numbers of records of one list
abbrev pub IsSmall : Count → Type 0
IsSmall c = (c.records < MOST_RECORDS) × (c.barriers < MOST_RECORDS)

-- with one record more
abbrev pub with_record : Count → Event → Count
with_record c x = record { records = c.records + 1; barriers = c.barriers + (if is_barrier x then 1 else 0) }

-- those of item i after one more record
abbrev pub after_record : ℕ → Event → Count → Count
after_record i x c = if is_of i x then with_record c x else c
