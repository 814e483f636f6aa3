-- The world of a run: what was sent, taken, handled, passed on and received; and what holds in every world.
-- Source: docs/MODEL.md, "The world".
use Rattle.std.specs.Prelude.{◌≡◌, ◌==◌, ℕ, ◌<◌, ◌%◌, List, [], ◌++◌, length, filter, replicate, slice_index_or, slice_set, Option, None, All, Contains, IsTrue}
use Rattle.std.specs.Option.{option_map}
use Rattle.gr_world.specs.Types.{Event, Sent, Word, MOST_RECORDS, Access}
use Rattle.gr_model.specs.Prelude.{IsConfig, Settings, worker_number, IsShape, AreComplete, ArePrefixes, Streams, events_of, is_complete, list_of}
use Rattle.gr_steps.specs.Steps.{IsAtRest}
use Rattle.gr_lanes.specs.Takes.{nothing_taken, with_record}
use Rattle.gr_order.specs.Sequences.{IsSequence, Sequence, nothing, taking}
use Rattle.gr_shadow.specs.Clashes.{ClockedAccess, IsHitIn, clocked}
use Rattle.gr_closure.specs.AccessesAlong.{AreAccesses, in_flight_list}
use Rattle.gr_world.specs.Queues.{Bounded, Work, empty_queue, leaving, no_work, pushed, queueing, receiving}

pub record World : Type 0 where
  pub config : Settings
  -- what the groups' senders sent
  pub sent : Streams
  -- what waits to be taken
  pub intakes : List (Bounded Sent)
  -- what was taken, and what of it was handled, in which order
  pub sequence : Sequence
  -- the access that was handled and is not yet in a queue
  pub in_flight : Option ClockedAccess
  pub workers : List Work

-- a world as contracts see it, made from the fields of the type
abbrev pub world_of : {Z : Type 0} → Settings → Streams → List (Bounded Sent) → Sequence → Option (Access Z) → List Work → World
world_of config sent intakes sequence in_flight workers =
    record {
      config = config;
      sent = sent;
      intakes = intakes;
      sequence = sequence;
      in_flight = option_map clocked in_flight;
      workers = workers;
    }

abbrev pub no_queue : Bounded Sent
no_queue = empty_queue 0

abbrev pub intake_at : World → ℕ → Bounded Sent
intake_at w q = slice_index_or w.intakes q no_queue

abbrev pub work_at : World → ℕ → Work
work_at w k = slice_index_or w.workers k (no_work 0)

-- the queue that a group's records go to, and the worker that an access goes to
abbrev pub queue_of : World → ℕ → ℕ
queue_of w g = g % w.config.queues

abbrev pub worker_of : World → ClockedAccess → ℕ
worker_of w x = worker_number x.word w.config.workers

-- groups of these sizes have sent nothing
abbrev pub new_world : List ℕ → Settings → World
new_world sizes config =
    record {
      config = config;
      sent = nothing_taken sizes;
      intakes = replicate config.queues (empty_queue config.capacity);
      sequence = nothing sizes;
      in_flight = None;
      workers = replicate config.workers (no_work config.capacity);
    }

-- ---- what a step changes

-- a group sent one more record
abbrev pub sending : World → ℕ → Event → World
sending w g x =
    record w {
      sent = with_record w.sent g x;
      intakes = slice_set w.intakes (queue_of w g) (pushed (intake_at w (queue_of w g)) (record { group = g; event = x }));
    }

-- the record at the front of a queue was taken, and these remain in it
abbrev pub taking_front : World → ℕ → Sent → List Sent → World
taking_front w q s rest =
    record w { intakes = slice_set w.intakes q (leaving (intake_at w q) rest); sequence = taking w.sequence s.group s.event }

-- the sequence went on, and this access is on its way
abbrev pub going_on : World → Sequence → Option ClockedAccess → World
going_on w sequence in_flight = record w { sequence = sequence; in_flight = in_flight }

-- the access on its way was queued for its word's worker
abbrev pub passing : World → ClockedAccess → World
passing w x =
    record w { in_flight = None; workers = slice_set w.workers (worker_of w x) (queueing (work_at w (worker_of w x)) x) }

-- a worker received the access at the front of its queue, and these remain in it
abbrev pub working : World → ℕ → ClockedAccess → List ClockedAccess → World
working w k x rest = record w { workers = slice_set w.workers k (receiving (work_at w k) x rest) }

-- ---- what holds in every world

-- those of the accesses that go to a worker
abbrev pub accesses_for : World → ℕ → List ClockedAccess → List ClockedAccess
accesses_for w k accesses = filter (λ x. worker_of w x == k) accesses

-- the records of a group that were taken, followed by those in its queue, are the records that it sent; a queue has only its own groups' records
pub record AreDelivered (w : World) : Type 0 where
  pub whole : (g : ℕ) → list_of w.sent g ≡ list_of w.sequence.taken g ++ events_of g (intake_at w (queue_of w g)).items
  pub own : (q : ℕ) (s : Sent) → Contains (intake_at w q).items s → queue_of w s.group ≡ q

-- what a worker received, then what is in its queue, then what is on its way to it: these are all handled accesses that go to this worker
abbrev pub IsPassedOn : World → List ClockedAccess → ℕ → Type 0
IsPassedOn w accesses k = accesses_for w k accesses ≡ (work_at w k).received ++ (work_at w k).queue.items ++ accesses_for w k (in_flight_list w.in_flight)

pub record ArePassedOn (w : World) : Type 0 where
  pub accesses : List ClockedAccess
  pub along : AreAccesses w.sequence.taken w.sequence.handled accesses
  pub each : (k : ℕ) → k < w.config.workers → IsPassedOn w accesses k

pub record IsWorld (w : World) : Type 0 where
  pub config : IsConfig w.config
  -- the shape is one of a launch
  pub shape : IsShape w.sent.sizes
  -- each list that was sent is a prefix of one that its group may have: an end comes last and nowhere else
  pub sent : ArePrefixes w.sent
  -- a list that has no end has room for it
  pub room : (g : ℕ) → ¬ IsTrue (is_complete (list_of w.sent g)) → length (list_of w.sent g) < MOST_RECORDS
  -- the lists that were taken are such prefixes too, and the order of the handled events is lawful
  pub sequence : IsSequence w.sequence
  pub sizes : w.sequence.taken.sizes ≡ w.sent.sizes
  pub queues : length w.intakes ≡ w.config.queues
  pub intakes : (q : ℕ) → q < w.config.queues → (intake_at w q).places ≡ w.config.capacity
  pub worker_count : length w.workers ≡ w.config.workers
  pub workers : (k : ℕ) → k < w.config.workers → (work_at w k).queue.places ≡ w.config.capacity
  pub delivered : AreDelivered w
  pub passed : ArePassedOn w

-- ---- when nothing remains to do

-- all intake queues are empty
abbrev pub AreEmpty : List (Bounded Sent) → Type 0
AreEmpty intakes = All (λ q. q.items ≡ []) intakes

-- the queues of all workers are empty
abbrev pub AreIdle : List Work → Type 0
AreIdle workers = All (λ k. k.queue.items ≡ []) workers

-- all streams have ended, all queues are empty, no access is on its way, and the sequencer can make no step
pub record IsWorldAtRest (w : World) : Type 0 where
  pub closed : AreComplete w.sent
  pub intakes : AreEmpty w.intakes
  pub in_flight : w.in_flight ≡ None
  pub work : AreIdle w.workers
  pub rest : IsAtRest w.sequence.taken w.sequence.handled

-- a word is hit in what some worker received
abbrev pub IsHitAtWork : List Work → Word → Type 0
IsHitAtWork workers w = (k : Work) × Contains workers k × IsHitIn k.received w
