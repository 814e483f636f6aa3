-- What is kept of a record that is taken.
use Rattle.std.specs.Prelude.{◌≡◌, ℕ, Bool, List, [], ◌∷◌, ◌++◌, length, map, if◌then◌else◌, ◌==◌, ◌&&◌}
use Rattle.gr_order.specs.Types.{Event, ItemId, EventId}
use Rattle.gr_model.specs.Prelude.{is_of}
use Rattle.gr_lanes.specs.Remembered.{Remembered}
use Rattle.gr_clocks.specs.Counts.{Counts}
use Rattle.gr_windows.specs.Windows.{AreWaiting, Table, window_of}
use Rattle.gr_order.specs.Forgetting.{IsForgetting}
use Rattle.gr_order.specs.Sequences.{Sequence}
use Rattle.gr_order.specs.States.{IsOrderState}

-- a record of a group is one of the item's trace
abbrev pub is_at : ℕ → Event → ItemId → Bool
is_at g x i = (i.group == g) && is_of i.item x

-- what it adds to the trace of an item
abbrev pub added : ℕ → Event → ItemId → List Event
added g x i = if is_at g x i then x ∷ [] else []

-- one more record of a group is kept, after the others of its item
pub record Keeps (old : Table) (g : ℕ) (x : Event) (new : Table) : Type 0 where
  pub shape : map length new ≡ map length old
  pub each : (i : ItemId) → window_of new i ≡ window_of old i ++ added g x i

-- the same events of each item wait
pub record AreSame (old new : Table) : Type 0 where
  pub shape : map length new ≡ map length old
  pub each : (i : ItemId) → window_of new i ≡ window_of old i

-- the clock counts the handled events, and those that it does not count wait
pub record IsKept (q : Sequence) (frontier : Counts) (windows : Table) (held : ℕ) : Type 0 where
  pub state : IsOrderState q frontier held
  pub waits : AreWaiting q.taken frontier windows

-- the clock counts the handled events, those that it does not count wait, and what is forgotten was handled
pub record IsOrder (r : Remembered) (handled : List EventId) (frontier : Counts) (windows : Table) (held : ℕ) : Type 0 where
  pub kept : IsKept (record { taken = r.streams; handled = handled }) frontier windows held
  pub forgets : IsForgetting r frontier
