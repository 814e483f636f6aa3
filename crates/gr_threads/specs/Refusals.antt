-- When a sender refuses an event or an end.
-- Source: docs/QUEUES.md, "Senders".
use Rattle.std.specs.Prelude.{◌≡◌, ◌<◌, ◌≤◌, ◌+◌, ℕ, Bool, true, false, length, MatchOption, Option, IsTrue, IsFalse}
use Rattle.crossbeam_queue.specs.Fifo.{Held}
use Rattle.gr_model.specs.declared.event.Event.{Event}
use Rattle.gr_model.specs.Prelude.{IsEventOk, end_of, is_end, is_complete}
use Rattle.gr_route.specs.Batches.{all_of}
use Rattle.gr_route.specs.IntakeSeats.{AgreesWithSeat}
use Rattle.gr_threads.specs.declared.sender.SendError.{SendError}
use Rattle.gr_threads.specs.declared.sender.SendError.TheVariants.{Closed, UnknownItem, BadEvent, StreamFull, Full}
use Rattle.gr_threads.specs.Senders.{Sending}

-- a record that a group of so many items may have, and no end
abbrev pub IsSendable : Event → ℕ → Type 0
IsSendable e items = IsFalse (is_end e) × IsEventOk e items

-- the sender is not closed, its group may have the event, and there is room for the end after it
pub record MaySend (s : Sending) (e : Event) : Type 0 where
  pub unended : IsFalse (is_complete s.sent)
  pub sendable : IsSendable e s.items
  pub room : length s.sent + 1 < s.records

-- at some moment of the call the queue held as many batches of events as it has places, and these agree with what the sender's seat knows
abbrev pub WasFull : Sending → Type 0
WasFull s = Held s.queue.places (λ batches. AgreesWithSeat record { queue = s.queue.queue; group = s.group; items = s.items; pushed = s.sent } (all_of batches))

-- why an event was refused: the first cause that applies
abbrev pub IsSendRefusal : Sending → Event → SendError → Type 0
IsSendRefusal s e Closed = IsTrue (is_complete s.sent)
IsSendRefusal s e UnknownItem = IsFalse (is_complete s.sent) × (s.items ≤ e.item)
IsSendRefusal s e BadEvent = IsFalse (is_complete s.sent) × (e.item < s.items) × ¬ IsSendable e s.items
IsSendRefusal s e StreamFull = IsFalse (is_complete s.sent) × IsSendable e s.items × (s.records ≤ length s.sent + 1)
IsSendRefusal s e (Full x) = (x ≡ e) × MaySend s e × WasFull s

-- why an end was refused
abbrev pub IsRefusalOfEnd : Sending → Bool → SendError → Type 0
IsRefusalOfEnd s cut Closed = IsTrue (is_complete s.sent)
IsRefusalOfEnd s cut UnknownItem = ⊥
IsRefusalOfEnd s cut BadEvent = ⊥
IsRefusalOfEnd s cut StreamFull = ⊥
IsRefusalOfEnd s cut (Full x) = (x ≡ end_of cut) × IsFalse (is_complete s.sent) × WasFull s

abbrev pub is_full : SendError → Bool
is_full Closed = false
is_full UnknownItem = false
is_full BadEvent = false
is_full StreamFull = false
is_full (Full x) = true

-- why a record that may come next was not pushed
abbrev pub IsFull : Sending → Event → SendError → Type 0
IsFull s e error = (error ≡ Full e) × WasFull s

-- why an event is refused by a sender of which this is known: whether it has sent the end, the items of its group, how many records it has sent, and how many the stream may have
abbrev pub IsFirstCause : Bool → ℕ → ℕ → ℕ → Event → Option SendError → Type 0
IsFirstCause closed items sent records e refusal = (s : Sending) → closed ≡ is_complete s.sent → items ≡ s.items → sent ≡ length s.sent → records ≡ s.records → MatchOption refusal (MaySend s e) (IsSendRefusal s e)
