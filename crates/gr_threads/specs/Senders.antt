-- What contracts see of a sender, and what a sender keeps.
-- Source: docs/QUEUES.md, "Senders".
use Rattle.std.specs.Prelude.{◌≡◌, ◌<◌, ◌≤◌, ℕ, Bool, List, [], ◌++◌, length, IsFalse, IsTrue}
use Rattle.gr_model.specs.declared.event.Event.{Event}
use Rattle.gr_model.specs.declared.limits.TheConstants.{MOST_RECORDS}
use Rattle.gr_model.specs.Prelude.{IsPrefix, is_complete}
use Rattle.gr_route.specs.IntakeSeats.{Seat}
use Rattle.gr_route.specs.Rooms.{Room}

-- the queue that it sends to, its group, the group's number of items, the number of records that the stream may have, and what it has sent
pub record Sending : Type 0 where
  pub queue : Room
  pub group : ℕ
  pub items : ℕ
  pub records : ℕ
  pub sent : List Event

-- the seat is the group's in the queue, and the group has items; the count and the mark fit what the seat pushed; while the mark is not set, there is room for an end
pub record IsSender (queue : Room) (seat : Seat) (group items records sent : ℕ) (closed : Bool) : Type 0 where
  pub same_queue : seat.queue ≡ queue.queue
  pub same_group : seat.group ≡ group
  pub same_items : seat.items ≡ items
  pub count : sent ≡ length seat.pushed
  pub mark : closed ≡ is_complete seat.pushed
  pub some : 0 < items
  pub room : IsFalse closed → sent < records
  pub limit : records ≤ MOST_RECORDS

-- ---- events that are pushed together

-- these may be pushed after what was sent: no end is among them, and there is room for it after them
pub record MayPush (s : Sending) (events : List Event) : Type 0 where
  pub before : IsFalse (is_complete s.sent)
  pub stream : IsPrefix s.items (s.sent ++ events)
  pub after : IsFalse (is_complete (s.sent ++ events))
  pub room : length (s.sent ++ events) < s.records

-- the sender, once these that wait are sent too
abbrev pub with_waiting : Sending → List Event → Sending
with_waiting s waiting = record { queue = s.queue; group = s.group; items = s.items; records = s.records; sent = s.sent ++ waiting }

-- events wait only where all may be pushed, and the count is that of all
pub record IsBatchSender (s : Sending) (waiting : List Event) (sent : ℕ) : Type 0 where
  pub count : sent ≡ length (s.sent ++ waiting)
  pub unended : IsFalse (is_complete s.sent) → MayPush s waiting
  pub ended : IsTrue (is_complete s.sent) → waiting ≡ []
