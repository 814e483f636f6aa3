-- What contracts see of a run, of its senders and of its receipts.
-- Source: docs/QUEUES.md, "Workers and queues".
use Rattle.std.specs.Prelude.{◌≡◌, ◌==◌, ◌<◌, ◌%◌, ℕ, List, [], ◌∷◌, length, map, filter, slice_get, slice_index, slice_index_or, All, Some, if◌then◌else◌}
use Rattle.std.specs.List.{range_with_len}
use Rattle.atomic_table.specs.Seated.{TableId}
use Rattle.gr_order.specs.Types.{Event, MOST_RECORDS}
use Rattle.gr_model.specs.Prelude.{Settings, Streams}
use Rattle.gr_route.specs.IntakeSeats.{Seat}
use Rattle.gr_route.specs.WorkSeats.{Worker}
use Rattle.gr_threads.specs.Senders.{Sending}
use Rattle.gr_sequencer_thread.specs.Ends.{Begin}
use Rattle.gr_sequencer_thread.specs.Feeds.{intakes_of, works_of}

-- its configuration, the items of each work-group, and its intake queues
pub record Run : Type 0 where
  pub config : Settings
  pub sizes : List ℕ
  pub intakes : List TableId

-- the group is one of the run, and this is the queue that its events go to
pub record IsOfRun (run : Run) (group : ℕ) (queue : TableId) : Type 0 where
  pub there : group < length run.sizes
  pub here : slice_get run.intakes (group % run.config.queues) ≡ Some queue

-- the open sender of a group of the run, which has sent nothing and may send a stream of any length
pub record IsSenderOf (run : Run) (g : ℕ) (sender : Sending) : Type 0 where
  pub group : sender.group ≡ g
  pub items : sender.items ≡ slice_index run.sizes g
  pub records : sender.records ≡ MOST_RECORDS
  pub sent : sender.sent ≡ []
  pub of_run : IsOfRun run g sender.queue.queue

-- the open senders of all groups of the run, in order
pub record AreSendersOf (run : Run) (senders : List Sending) : Type 0 where
  pub count : length senders ≡ length run.sizes
  pub each : (g : ℕ) (d : Sending) → g < length run.sizes → IsSenderOf run g (slice_index_or senders g d)

-- which queues workers pop from
abbrev pub worker_queues : {A : Type 0} → List (Worker A) → List TableId
worker_queues workers = map (λ w. w.queue) workers

-- receipts of the run
abbrev pub AreReceiptsOf : Run → List Seat → Type 0
AreReceiptsOf run receipts = All (λ r. IsOfRun run r.group r.queue) receipts

-- each of this many groups has exactly one receipt among these
abbrev pub IsEachOnce : ℕ → List Seat → Type 0
IsEachOnce groups receipts = (g : ℕ) → g < groups → length (filter (λ r. r.group == g) receipts) ≡ 1

-- what was sent of a group
abbrev pub sent_of : ℕ → List Seat → List Event
sent_of g [] = []
sent_of g (r ∷ receipts) = if r.group == g then r.pushed else sent_of g receipts

-- what was sent of groups of these sizes
abbrev pub sent_by : List ℕ → List Seat → Streams
sent_by sizes receipts = record { sizes = sizes; lists = map (λ g. sent_of g receipts) (range_with_len 0 (length sizes)) }

-- the sequencer pushes to the queues that the workers pop from
abbrev pub IsRunning : {A : Type 0} → Begin A → List (Worker A) → Type 0
IsRunning begin workers = worker_queues workers ≡ works_of begin.givers

abbrev pub run_of : {A : Type 0} → Begin A → Run
run_of begin = record { config = begin.config; sizes = begin.sizes; intakes = intakes_of begin.takers }
