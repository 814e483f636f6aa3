-- How far a walk along a chain has come: which items it has visited.
use Rattle.std.specs.Prelude.{◌≡◌, ℕ, ◌-◌, ◌<◌, List, Some}
use Rattle.std.specs.List.{sum_by}
use Rattle.gr_timeline.specs.Types.{EventId, ItemId, Link}
use Rattle.gr_model.specs.Prelude.{items_of, Streams}
use Rattle.gr_clocks.specs.Counts.{Counts, count_of, sizes_of}
use Rattle.gr_timeline.specs.Chains.{event_of}
use Rattle.gr_timeline.specs.Waiting.{IsFirstHeld}

-- the first held event of an item is that of one of the links
pub record IsLinked (s : Streams) (links : List Link) (i : ItemId) : Type 0 where
  pub place : ℕ
  pub event : EventId
  pub item : event.at ≡ i
  pub first : IsFirstHeld s event
  pub linked : event_of links place ≡ Some event

-- the first held event of each item that is counted is that of one of the links
pub record AreVisited (s : Streams) (links : List Link) (visited : Counts) : Type 0 where
  pub shape : sizes_of visited ≡ s.sizes
  pub each : (i : ItemId) → 0 < count_of visited i → IsLinked s links i

-- how many items are not counted
abbrev pub unvisited : Counts → List ℕ → ℕ
unvisited visited sizes = sum_by (λ i. 1 - count_of visited i) (items_of sizes)
