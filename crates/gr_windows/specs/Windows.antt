-- For each work-item, the events that wait, as one row of lists for each group; and what is done to them.
use Rattle.std.specs.Prelude.{◌≡◌, ◌≢◌, ℕ, ◌<◌, List, [], drop, length, map}
use Rattle.gr_model.specs.declared.event.Event.{Event}
use Rattle.gr_model.specs.declared.event.ItemId.{ItemId}
use Rattle.gr_model.specs.Prelude.{put, Streams, trace_of}
use Rattle.gr_clocks.specs.Counts.{Counts, count_of}
use Rattle.gr_clocks.specs.Rows.{entry_of}
use Rattle.gr_clocks.specs.Tables.{IsBeyond, item_of}

-- for each group, the events of its items that wait
abbrev pub Table : Type 0
Table = List (List (List Event))

-- the events of an item that wait
abbrev pub window_of : Table → ItemId → List Event
window_of w i = entry_of [] w i

-- no event of items of this shape waits
pub record IsEmpty (sizes : List ℕ) (w : Table) : Type 0 where
  pub shape : map length w ≡ sizes
  pub none : (i : ItemId) → window_of w i ≡ []

-- a group has so many items, and of all items the events as before wait
pub record AddsItems (old : Table) (group n : ℕ) (new : Table) : Type 0 where
  pub shape : map length new ≡ put 0 (map length old) group n
  pub each : (i : ItemId) → window_of new i ≡ window_of old i

-- of one item these events wait, and of the others those as before
pub record Changes (old : Table) (i : ItemId) (events : List Event) (new : Table) : Type 0 where
  pub shape : map length new ≡ map length old
  pub item : window_of new i ≡ events
  pub others : (j : ItemId) → j ≢ i → window_of new j ≡ window_of old j

-- of each of the first n items of a group the first event waits no more
pub record DropsItems (old : Table) (g n : ℕ) (new : Table) : Type 0 where
  pub shape : map length new ≡ map length old
  pub items : (k : ℕ) → k < n → window_of new (item_of g k) ≡ drop 1 (window_of old (item_of g k))
  pub others : (j : ItemId) → IsBeyond g n j → window_of new j ≡ window_of old j

-- of each item those events wait that a clock does not count
pub record AreWaiting (s : Streams) (frontier : Counts) (w : Table) : Type 0 where
  pub shape : map length w ≡ s.sizes
  pub each : (i : ItemId) → window_of w i ≡ drop (count_of frontier i) (trace_of s i)
