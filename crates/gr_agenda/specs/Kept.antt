-- What holds of the list of steps and of the lists of items that wait: no ready step is missing.
use Rattle.std.specs.Prelude.{◌≡◌, ◌≢◌, ◌⊎◌, ℕ, List, Option, Some, Vec, slice_get}
use Rattle.gr_agenda.specs.Types.{EventId, ItemId, Name, Ready, Item}
use Rattle.gr_model.specs.Prelude.{IsDivergent, is_barrier, IsIn, HasName, release_place, Streams, place_of, IsPrevious}
use Rattle.gr_clocks.specs.Counts.{Counts, count_of}
use Rattle.gr_steps.specs.Steps.{CanHandle}
use Rattle.gr_order.specs.Answers.{CanMake}
use Rattle.gr_order.specs.Sequences.{Sequence}
use Rattle.gr_order.specs.States.{AreBelowFrontier}
use Rattle.gr_agenda.specs.Lists.{Has, IsWaiting, Steps}

-- the release of this name was handled
abbrev pub IsReleaseHandled : Streams → List EventId → Name → Type 0
IsReleaseHandled s handled n = (x : EventId) × (x.at ≡ n.at) × (release_place s n ≡ Some x.index) × IsIn handled x

-- an event is the next of its item, and has this name, whose release was not handled
pub record IsHeldUp (s : Streams) (handled : List EventId) (d : EventId) (n : Name) : Type 0 where
  pub named : HasName s d n
  pub fresh : ¬ IsIn handled d
  pub previous : (p : EventId) → IsPrevious p d → IsIn handled p
  pub free : ¬ IsReleaseHandled s handled n

-- one of its names holds up an event, and the event's item waits for the release of that name
abbrev pub IsNoted : {Z : Type 0} → Streams → List EventId → List (Vec ItemId Z) → EventId → Type 0
IsNoted s handled lists d = (n : Name) × IsHeldUp s handled d n × IsWaiting lists n d.at

-- an item's next event can be handled, or one of its names holds it up
abbrev pub IsPending : Sequence → ItemId → Type 0
IsPending q i = CanHandle q.taken q.handled i ⊎ ((d : EventId) × (n : Name) × (d.at ≡ i) × IsHeldUp q.taken q.handled d n)

-- each step that can be made is in the list; and each item that is held up is in the list, or waits for one of its releases
pub record IsKept {Z : Type 0} (q : Sequence) (t : Steps) (lists : List (Vec ItemId Z)) : Type 0 where
  pub ready : (r : Ready) → CanMake q r → Has t r
  pub waits : (d : EventId) (n : Name) → IsHeldUp q.taken q.handled d n → Has t (Item d.at) ⊎ IsNoted q.taken q.handled lists d

-- ---- instances that are known not to be divergent

-- the next event of an item is its barrier with this number
abbrev pub IsNextBarrier : Sequence → ItemId → ℕ → Type 0
IsNextBarrier q i k = (frontier : Counts) × AreBelowFrontier q.handled frontier × (place_of q.taken is_barrier i k ≡ Some (count_of frontier i))

-- for each group an instance that is not divergent, if one is known
abbrev pub AreUndiverged : Streams → List (Option ℕ) → Type 0
AreUndiverged s undiverged = (g k : ℕ) → slice_get undiverged g ≡ Some (Some k) → ¬ IsDivergent s g k

-- none is known of group g, and of the other groups only those that were
pub record IsForgotten (old : List (Option ℕ)) (g : ℕ) (new : List (Option ℕ)) : Type 0 where
  pub none : (k : ℕ) → slice_get new g ≢ Some (Some k)
  pub others : (h k : ℕ) → slice_get new h ≡ Some (Some k) → slice_get old h ≡ Some (Some k)

-- if one is known of group g, it is this; and of the other groups only those are known that were
pub record IsTold (old : List (Option ℕ)) (g k : ℕ) (new : List (Option ℕ)) : Type 0 where
  pub own : (n : ℕ) → slice_get new g ≡ Some (Some n) → n ≡ k
  pub others : (h n : ℕ) → (h ≡ g → ⊥) → slice_get new h ≡ Some (Some n) → slice_get old h ≡ Some (Some n)
