-- What contracts see of an intake queue's seats.
-- Source: docs/QUEUES.md, "The intake queue".
use Rattle.std.specs.Prelude.{◌<◌, ◌≢◌, ℕ, List, ◌++◌, length, slice_index, IsFalse}
use Rattle.atomic_table.specs.Seated.{TableId}
use Rattle.crossbeam_queue.specs.Passes.{view}
use Rattle.gr_route.specs.Types.{Event, Sent, MOST_RECORDS, Joined}
use Rattle.gr_model.specs.Prelude.{IsEventOk, IsPrefix, events_of, is_complete}
use Rattle.gr_route.specs.Batches.{front}
use Rattle.gr_route.specs.Prefixes.{EndsWith}
use Rattle.gr_route.specs.Rooms.{AgreesWith}
use Rattle.gr_route.specs.IntakeRule.{SeatsAgree}
use Rattle.gr_route.specs.Rule as rule

-- the seat's queue, its group, the group's number of items, and the events that it pushed
pub record Seat : Type 0 where
  pub queue : TableId
  pub group : ℕ
  pub items : ℕ
  pub pushed : List Event

-- the seat's queue, what it popped, the number of items of each group that has had a seat (0 for the others), and the lists of the seats that were joined back
pub record Taker : Type 0 where
  pub queue : TableId
  pub popped : List Sent
  pub sizes : List ℕ
  pub joined : List (Joined Event)

-- what is seen of the taker's pass, if these groups have had a seat, and this is left of the batch that was popped last
abbrev pub taker_seen : rule.PassOf Sent Event → List ℕ → List Sent → Taker
taker_seen pass sizes rest = record { queue = pass.table_id; popped = front (view pass).popped rest; sizes = sizes; joined = (view pass).joined }

-- what was popped of a group
abbrev pub popped_of : Taker → ℕ → List Event
popped_of t g = events_of g t.popped

-- a seat that was joined back had the items that its group has, at least one; what it pushed is the prefix of a stream, and begins with what was popped of the group
abbrev pub IsDelivered : Taker → Joined Event → Type 0
IsDelivered t = rule.IsDelivered events_of IsPrefix t.popped t.sizes

-- what was popped of a group is the prefix of a stream, and nothing was popped of a group that has had no seat
abbrev pub IsDelivery : Taker → Type 0
IsDelivery t = rule.IsDelivery events_of IsPrefix t.popped t.sizes t.joined

-- the next event to be popped is of a group that has had a seat, and may follow what was popped of the group
pub record IsNextPopped (t : Taker) (s : Sent) : Type 0 where
  pub seated : slice_index t.sizes s.group ≢ 0
  pub good : IsEventOk s.event (slice_index t.sizes s.group)
  pub unended : IsFalse (is_complete (popped_of t s.group))
  pub room : length (popped_of t s.group) < MOST_RECORDS

-- ---- what agrees with a seat

-- what the queue holds agrees with what a seat that pushes knows, and with what the seat that pops knows
abbrev pub AgreesWithSeat : Seat → List Sent → Type 0
AgreesWithSeat s = AgreesWith SeatsAgree (rule.seat_of s.group s.items s.pushed)

abbrev pub AgreesWithTaker : Taker → List Sent → Type 0
AgreesWithTaker t = AgreesWith SeatsAgree (rule.taker_of t.popped t.sizes t.joined)

-- the queue holds the last events of what the seat pushed, and of each group the last events of the prefix of a stream
pub record IsBehindSeat (s : Seat) (items : List Sent) : Type 0 where
  pub mine : EndsWith s.pushed (events_of s.group items)
  pub streams : (g : ℕ) → (size : ℕ) × (sent : List Event) × IsPrefix size sent × EndsWith sent (events_of g items)

-- what was popped, followed by what the queue holds, is the prefix of a stream for each group; it is nothing for a group that has had no seat, and all that was pushed for one whose seat was joined back
abbrev pub IsBeforeTaker : Taker → List Sent → Type 0
IsBeforeTaker t items = rule.IsWhole events_of IsPrefix (t.popped ++ items) t.sizes t.joined

-- ---- laws

-- what agrees with a seat
abbrev pub SeatTells : Type 0
SeatTells = (s : Seat) (items : List Sent) → AgreesWithSeat s items → IsBehindSeat s items

abbrev pub TakerTells : Type 0
TakerTells = (t : Taker) (items : List Sent) → AgreesWithTaker t items → IsBeforeTaker t items
