-- What lies between the two accesses of a racing pair.
-- Source: docs/OUTPUT.md, "explain --long".
use Rattle.std.specs.Prelude.{ℕ, Bool, false, List, [], Option, None, drop, filter, filter_map, find, if◌then◌else◌, nat_lt, option_and_then, option_map, take, ◌==◌}
use Rattle.std.specs.List.{enumerate_from, last_or, range_with_len}
use Rattle.std.specs.Option.{option_map_or}
use Rattle.gr_races.specs.Types.{Crossing, Event, EventId, Details}
use Rattle.gr_model.specs.declared.event.ItemId.{ItemId}
use Rattle.gr_model.specs.Prelude.{is_acquire_kind, is_release, is_barrier, mark_of, Mark, Streams, event_at, places_from, trace_of}
use Rattle.gr_races.specs.declared.between.Between.{Between}
use Rattle.gr_races.specs.declared.between.DetailedEvent.{DetailedEvent}
use Rattle.gr_timeline.specs.Details.{details_of, phase_of}

-- ---- barriers

abbrev pub crossing : ℕ → Mark → Crossing
crossing k a = record { instance = k; site = a.site; global = a.global; local = a.local }

-- a barrier, with its number among its item's
abbrev pub crossing_of : ℕ × Event → Option Crossing
crossing_of x = option_map (crossing x.0) (mark_of x.1)

-- the barriers of its item before an event, from the n-th on, n from 0
abbrev pub passed_from : Streams → EventId → ℕ → List Crossing
passed_from s e n = filter_map crossing_of (drop n (enumerate_from 0 (filter is_barrier (take e.index (trace_of s e.at)))))

-- of two events of one group, the barriers before the one that has more of them before it, without those before the other
abbrev pub crossings : Streams → EventId → EventId → List Crossing
crossings s e f =
    if e.at.group == f.at.group
    then (if nat_lt (phase_of s e) (phase_of s f) then passed_from s f (phase_of s e) else passed_from s e (phase_of s f))
    else []

-- ---- halves of hand-overs

-- whether an item's event of this index is an acquire
abbrev pub is_acquire_at : Streams → ItemId → ℕ → Bool
is_acquire_at s i k = let e : EventId = record { at = i; index = k } in option_map_or (λ x. is_acquire_kind x.kind) (event_at s e) false

abbrev pub with_details : EventId → Event → Details → DetailedEvent
with_details e x d = record { event = e; said = x; details = d }

-- an item's event of this index with its record and its details, if there is one
abbrev pub detailed_at : Streams → ItemId → ℕ → Option DetailedEvent
detailed_at s i k = let e : EventId = record { at = i; index = k } in option_and_then (λ x. option_map (with_details e x) (details_of s e)) (event_at s e)

-- the first release of its item's trace after an event
abbrev pub release_behind : Streams → EventId → Option DetailedEvent
release_behind s e = option_and_then (detailed_at s e.at) (find (nat_lt e.index) (places_from is_release 0 (trace_of s e.at)))

-- the last acquire of its item's trace before an event
abbrev pub acquire_before : Streams → EventId → Option DetailedEvent
acquire_before s e = option_and_then (detailed_at s e.at) (last_or None (filter (is_acquire_at s e.at) (range_with_len 0 e.index)))

-- ---- both

-- what is said to lie between two accesses
pub record BetweenSaid : Type 0 where
  pub crossings : List Crossing
  pub release : Option DetailedEvent
  pub acquire : Option DetailedEvent
  pub release_back : Option DetailedEvent
  pub acquire_back : Option DetailedEvent

abbrev pub between_said : {Z : Type 0} → Between Z → BetweenSaid
between_said b = record { crossings = b.crossings.items; release = b.release; acquire = b.acquire; release_back = b.release_back; acquire_back = b.acquire_back }

-- what lies between two accesses
abbrev pub between_of : Streams → EventId → EventId → BetweenSaid
between_of s e f = record { crossings = crossings s e f; release = release_behind s e; acquire = acquire_before s f; release_back = release_behind s f; acquire_back = acquire_before s e }
