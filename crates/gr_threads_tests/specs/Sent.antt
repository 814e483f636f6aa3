-- What each of the three senders sends.
use Rattle.std.specs.Prelude.{◌≡◌, ℕ, zero, suc, ◌<◌, false, List, [], ◌∷◌, ◌++◌, Vec, IsTrue}
use Rattle.gr_record.specs.Types.{Event, Global, MOST_RECORDS, Write}
use Rattle.gr_model.specs.declared.event.Sent.{Sent}
use Rattle.gr_model.specs.Prelude.{end_of, is_complete}
use Rattle.gr_route.specs.Rooms.{Room}
use Rattle.gr_route.specs.IntakeSeats.{Seat, Taker, popped_of}
use Rattle.gr_threads.specs.Senders.{Sending}

-- a plain write of a global word by item 0
abbrev pub write_of : ℕ → Event
write_of word = record { item = 0; kind = Write; space = Global; word = word; names = [] }

-- the writes of the words below a count, in ascending order
abbrev pub writes_below : ℕ → List Event
writes_below zero = []
writes_below (suc n) = writes_below n ++ write_of n ∷ []

-- and then the end
abbrev pub stream_of : ℕ → List Event
stream_of count = writes_below count ++ end_of false ∷ []

-- a sender that has sent nothing, of a group of one item, for a stream of any length
abbrev pub IsFreshSender : Room → ℕ → Sending → Type 0
IsFreshSender queue group sender = sender ≡ record { queue = queue; group = group; items = 1; records = MOST_RECORDS; sent = [] }

-- senders of the groups 0 to 2
abbrev pub AreFreshSenders : Room → (Sending × Sending × Sending) → Type 0
AreFreshSenders queue senders = IsFreshSender queue 0 senders.0 × IsFreshSender queue 1 senders.1 × IsFreshSender queue 2 senders.2

-- the seat of a sender that sent the whole stream
abbrev pub IsSeatOf : Sending → ℕ → Seat → Type 0
IsSeatOf sender count seat = seat ≡ record { queue = sender.queue.queue; group = sender.group; items = sender.items; pushed = stream_of count }

-- of the groups 0 to 2 the end was popped
abbrev pub HasEnds : Taker → Type 0
HasEnds t = (g : ℕ) → g < 3 → IsTrue (is_complete (popped_of t g))

-- these are what was popped, the ends of the groups 0 to 2 among them
abbrev pub HasAll : {A : Type 0} → Taker → Vec Sent A → Type 0
HasAll t all = (all.items ≡ t.popped) × HasEnds t
