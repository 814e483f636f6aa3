-- How an order knows which events were handled: it counts those of each item.
use Rattle.std.specs.Prelude.{◌≡◌, ◌↔◌, ℕ, ◌+◌, ◌<◌, List, length, map}
use Rattle.std.specs.List.{range_with_len, sum_by}
use Rattle.gr_order.specs.Types.{EventId, ItemId}
use Rattle.gr_model.specs.Prelude.{IsIn, items_of}
use Rattle.gr_clocks.specs.Counts.{Counts, count_of, sizes_of}
use Rattle.gr_clocks.specs.Tables.{IsBeyond, item_of}
use Rattle.gr_order.specs.Sequences.{Sequence, IsSequence, event_count}

-- how many events a clock counts of the items of a shape
abbrev pub counted_in : Counts → List ℕ → ℕ
counted_in frontier sizes = sum_by (λ i. count_of frontier i) (items_of sizes)

-- the handled events of each item are its first ones, as many as the clock counts
abbrev pub AreBelowFrontier : List EventId → Counts → Type 0
AreBelowFrontier handled frontier = (e : EventId) → IsIn handled e ↔ (e.index < count_of frontier e.at)

-- the clock counts the handled events, and held is the number of the others that were taken
pub record IsOrderState (q : Sequence) (frontier : Counts) (held : ℕ) : Type 0 where
  pub sequence : IsSequence q
  pub shape : sizes_of frontier ≡ q.taken.sizes
  pub first : AreBelowFrontier q.handled frontier
  pub counts : counted_in frontier q.taken.sizes ≡ length q.handled
  pub rest : held + length q.handled ≡ event_count q.taken

-- ---- the next events of a group

-- the first event of an item that is not counted
abbrev pub next_event : Counts → ItemId → EventId
next_event frontier i = record { at = i; index = count_of frontier i }

-- those of the first n items of a group, in the order of the items
abbrev pub next_events : Counts → ℕ → ℕ → List EventId
next_events frontier g n = map (λ k. next_event frontier (item_of g k)) (range_with_len 0 n)

-- after counts one event more than before, for each of the first n items of a group
pub record TicksItems (before : Counts) (g n : ℕ) (after : Counts) : Type 0 where
  pub shape : sizes_of after ≡ sizes_of before
  pub items : (k : ℕ) → k < n → count_of after (item_of g k) ≡ count_of before (item_of g k) + 1
  pub others : (j : ItemId) → IsBeyond g n j → count_of after j ≡ count_of before j
