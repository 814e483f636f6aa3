-- What was sent of a stream whose bytes have come so far.
-- Source: docs/QUEUES.md, "Streams that are read while they are sent".
use Rattle.std.specs.Prelude.{◌≡◌, ◌≢◌, ◌⊎◌, ℕ, ◌+◌, ◌<◌, Bool, true, false, List, [], ◌∷◌, ◌++◌, length, map, Option, Some, None, Result, Ok, Err, IsTrue, IsFalse}
use Rattle.gr_streams.specs.Types.{Event, Kind, Read, Write, Load, Store, Rmw, Barrier, End, MOST_RECORDS, Fault, Part}
use Rattle.gr_model.specs.Prelude.{end_of, is_end, is_complete}
use Rattle.gr_record.specs.declared.fault.Fault.TheVariants as faults
use Rattle.gr_record.specs.declared.part.Part.TheVariants as parts
use Rattle.gr_record.specs.Prelude.{StandsFor, Standing, reading, AreBytes}
use Rattle.gr_threads.specs.Refusals.{IsSendable}
use Rattle.gr_threads.specs.Senders.{Sending}

-- what is sent of an event: an end is sent by its mark alone
abbrev pub sent_by_kind : Kind → Event → Event
sent_by_kind Read e = e
sent_by_kind Write e = e
sent_by_kind (Load scope order) e = e
sent_by_kind (Store scope order) e = e
sent_by_kind (Rmw scope order) e = e
sent_by_kind (Barrier global local) e = e
sent_by_kind (End cut) e = end_of cut

abbrev pub sent_as : Event → Event
sent_as e = sent_by_kind e.kind e

-- the event can be sent after these, in a group with this many items
pub record MayFollow (items : ℕ) (sent : List Event) (e : Event) : Type 0 where
  pub unended : IsFalse (is_complete sent)
  pub sendable : IsTrue (is_end e) ⊎ (IsSendable e items × (length sent + 1 < MOST_RECORDS))

-- one of the events was refused, and all before it were sent
pub record IsStuck (items : ℕ) (events : List Event) : Type 0 where
  pub before : List Event
  pub event : Event
  pub after : List Event
  pub split : events ≡ before ++ event ∷ after
  pub refused : ¬ MayFollow items (map sent_as before) event

-- the events were sent, or one of them was refused
abbrev pub AreSent : ℕ → List Event → List Event → Bool → Type 0
AreSent items events sent false = sent ≡ map sent_as events
AreSent items events sent true = IsStuck items events

-- the events among parts
abbrev pub events_in : List Part → List Event
events_in [] = []
events_in (parts.Header h ∷ ps) = events_in ps
events_in (parts.Event e ∷ ps) = e ∷ events_in ps

-- it is the same sender, whatever it has sent
pub record IsSameSender (old new : Sending) : Type 0 where
  pub queue : new.queue ≡ old.queue
  pub group : new.group ≡ old.group
  pub items : new.items ≡ old.items
  pub records : new.records ≡ old.records

-- these bytes were decoded, and their events sent
pub record IsFed (fed : List ℕ) (decoder : Standing) (sender : Sending) (refused : Bool) : Type 0 where
  pub bytes : AreBytes fed
  pub limit : decoder.limit ≡ MOST_RECORDS
  pub stands : StandsFor decoder fed
  pub records : sender.records ≡ MOST_RECORDS
  pub sent : AreSent sender.items (reading MOST_RECORDS fed).events sender.sent refused

-- the fault is the meaning of the input, unless it has an outside cause or a thread is missing
abbrev pub FailsHere : {Y : Type 0} → Fault → Result Y Fault → Type 0
FailsHere faults.Memory meaning = Unit {0}
FailsHere faults.Read meaning = Unit {0}
FailsHere faults.Threads meaning = Unit {0}
FailsHere f meaning = meaning ≡ Err f

-- without a fault, what was sent is the meaning of the input; else the fault is
abbrev pub Tells : {Y : Type 0} → Result Y Fault → Y → Option Fault → Type 0
Tells meaning sent None = meaning ≡ Ok sent
Tells meaning sent (Some f) = (f ≢ faults.Write) × FailsHere f meaning
