-- The state of the sequencer's thread, and what holds of it at every moment and at its end.
-- Source: docs/QUEUES.md, "The work queue", and docs/MODEL.md, "The world".
use Rattle.std.specs.Prelude.{◌≡◌, ◌==◌, ◌<◌, ◌%◌, ℕ, All, Bool, false, List, [], ◌++◌, drop, length, map, filter, slice_index, slice_index_or, Option, None, Some, IsFalse, IsTrue, if◌then◌else◌}
use Rattle.atomic_table.specs.Seated.{TableId}
use Rattle.gr_model.specs.declared.event.Event.{Event}
use Rattle.gr_model.specs.Prelude.{IsConfig, Settings, worker_number, AreComplete, IsPrefix, Streams, list_of, size_of}
use Rattle.gr_clocks.specs.ClockedAccess.{ClockedAccess}
use Rattle.gr_order.specs.Sequences.{IsDone, IsSequence, Sequence}
use Rattle.gr_route.specs.declared.work.Work.{Work}
use Rattle.gr_route.specs.Batches.{all_of}
use Rattle.gr_route.specs.IntakeSeats.{Taker, popped_of}
use Rattle.gr_route.specs.WorkRule.{is_stopped}
use Rattle.gr_route.specs.WorkSeats.{Giver}
use Rattle.gr_taking.specs.Along.{IsAlong}
use Rattle.gr_taking.specs.Sources.{ListedRecords, come_from}
use Rattle.gr_threads.specs.Given.{accesses_in}

-- the configuration, and the items of each work-group; what was taken, and what of it was handled, in which order; the seats that pop, by queue; the seats that push, by worker; the events that were popped and are still to be taken, by group; the accesses that were handled and not pushed yet, by worker; whether memory ran out
pub record Feed (A : Type 0) : Type 0 where
  pub config : Settings
  pub sizes : List ℕ
  pub sequence : Sequence
  pub takers : List Taker
  pub givers : List (Giver A)
  pub coming : List ListedRecords
  pub on_way : List (List ClockedAccess)
  pub failed : Bool

-- a backlog for each group, and no event in it
pub record AreNoBacklogs (sizes : List ℕ) (coming : List ListedRecords) : Type 0 where
  pub count : length coming ≡ length sizes
  pub each : (g : ℕ) (d : ListedRecords) → g < length coming → slice_index_or coming g d ≡ record { group = g; records = [] }

-- the events that are left of a batch, after so many were taken
abbrev pub left_of : Option (List Event) → ℕ → List Event
left_of None taken = []
left_of (Some events) taken = drop taken events

-- the work on its way to a worker: a batch that was refused, the batches after it, and what waits for more
abbrev pub work_on_way : {A : Type 0} → Option (List (Work A)) → List (List (Work A)) → List (Work A) → List (Work A)
work_on_way None batches waiting = all_of batches ++ waiting
work_on_way (Some batch) batches waiting = batch ++ (all_of batches ++ waiting)

-- the accesses on their way, by worker
abbrev pub accesses_on_way : {A : Type 0} → List (List (Work A)) → List (List ClockedAccess)
accesses_on_way ways = map accesses_in ways

-- which queues the seats are of
abbrev pub intakes_of : List Taker → List TableId
intakes_of takers = map (λ (t : Taker). t.queue) takers

abbrev pub works_of : {A : Type 0} → List (Giver A) → List TableId
works_of givers = map (λ g. g.queue) givers

-- the accesses that each worker was given
abbrev pub given_of : {A : Type 0} → List (Giver A) → List (List ClockedAccess)
given_of givers = map (λ g. accesses_in g.pushed) givers

-- what each worker was given, and what is on its way to it
abbrev pub towards : {A : Type 0} → List (Giver A) → List (List (Work A)) → ℕ → List ClockedAccess
towards givers ways k = slice_index_or (given_of givers) k [] ++ slice_index_or (accesses_on_way ways) k []

-- those of these accesses that go to this one of so many workers
abbrev pub accesses_for : ℕ → ℕ → List ClockedAccess → List ClockedAccess
accesses_for workers k accesses = filter (λ x. worker_number x.word workers == k) accesses

-- ---- what holds at every moment

-- a queue has had a seat for exactly the groups whose events go to it, each with its items
abbrev pub AreSeated : Settings → List ℕ → List Taker → Type 0
AreSeated config sizes takers = (q g : ℕ) (d : Taker) → q < config.queues → slice_index (slice_index_or takers q d).sizes g ≡ (if g % config.queues == q then slice_index sizes g else 0)

-- no worker was given `Stop`
abbrev pub AreOpen : {A : Type 0} → List (Giver A) → Type 0
AreOpen {A} givers = (k : ℕ) (d : Giver A) → k < length givers → IsFalse (is_stopped (slice_index_or givers k d).pushed)

-- each worker was given `Stop`
abbrev pub AreStopped : {A : Type 0} → List (Giver A) → Type 0
AreStopped {A} givers = (k : ℕ) (d : Giver A) → k < length givers → IsTrue (is_stopped (slice_index_or givers k d).pushed)

-- what was taken of each group is what was popped of it
abbrev pub AreTaken : Settings → Streams → List Taker → Type 0
AreTaken config taken takers = (g : ℕ) (d : Taker) → g < length taken.sizes → list_of taken g ≡ popped_of (slice_index_or takers (g % config.queues) d) g

-- of each group, what was taken of it, followed by what is still to be taken
abbrev pub come_in : Streams → List ListedRecords → List (ℕ × List Event)
come_in taken coming = come_from (λ b. b.group) (λ g. g) (λ b. b.records) taken coming

-- this is what was popped of the group, and it is the prefix of a stream
pub record ArePopped (config : Settings) (taken : Streams) (coming : List ListedRecords) (takers : List Taker) : Type 0 where
  pub count : length coming ≡ length taken.sizes
  pub each : (g : ℕ) (f : ℕ × List Event) (d : Taker) → g < length taken.sizes → slice_index_or (come_in taken coming) g f ≡ (g, popped_of (slice_index_or takers (g % config.queues) d) g)
  pub prefixes : (g : ℕ) (d : Taker) → g < length taken.sizes → IsPrefix (size_of taken g) (popped_of (slice_index_or takers (g % config.queues) d) g)

-- each of so many workers was given those of these accesses that go to it, except those that are on their way to it
abbrev pub AreSplit : ℕ → List (List ClockedAccess) → List ClockedAccess → List (List ClockedAccess) → Type 0
AreSplit workers given accesses on_way = (k : ℕ) → k < workers → accesses_for workers k accesses ≡ slice_index_or given k [] ++ slice_index_or on_way k []

-- what the workers were given, followed by what is on its way to them, are the accesses along the handled order
abbrev pub ArePassedOn : Settings → Sequence → List (List ClockedAccess) → List (List ClockedAccess) → Type 0
ArePassedOn config sequence given on_way = IsAlong (AreSplit config.workers given) sequence on_way

-- memory never ran out
pub record IsGood {A : Type 0} (f : Feed A) : Type 0 where
  pub same : f.sequence.taken.sizes ≡ f.sizes
  pub sequence : IsSequence f.sequence
  pub popped : ArePopped f.config f.sequence.taken f.coming f.takers
  pub passed : ArePassedOn f.config f.sequence (given_of f.givers) f.on_way

pub record IsFeed {A : Type 0} (f : Feed A) : Type 0 where
  pub config : IsConfig f.config
  pub queues : length f.takers ≡ f.config.queues
  pub worker_count : length f.givers ≡ f.config.workers
  pub backlogs : length f.coming ≡ length f.sizes
  pub seated : AreSeated f.config f.sizes f.takers
  pub unstopped : AreOpen f.givers
  pub good : f.failed ≡ false → IsGood f

-- ---- where it begins

-- there are groups of these sizes, nothing was popped, and nothing was pushed
pub record IsFresh {A : Type 0} (config : Settings) (sizes : List ℕ) (takers : List Taker) (givers : List (Giver A)) : Type 0 where
  pub queues : length takers ≡ config.queues
  pub worker_count : length givers ≡ config.workers
  pub seated : AreSeated config sizes takers
  pub popped : All (λ t. t.popped ≡ []) takers
  pub pushed : All (λ g. g.pushed ≡ []) givers

-- ---- where it ends

-- every group's end was taken, no step is left, and nothing is to be taken or on its way
pub record IsOver {A : Type 0} (f : Feed A) : Type 0 where
  pub complete : AreComplete f.sequence.taken
  pub done : IsDone f.sequence
  pub taken : All (λ b. b.records ≡ []) f.coming
  pub passed : All (λ l. l ≡ []) f.on_way

-- all that was popped was taken, handled and passed on
pub record IsWhole {A : Type 0} (config : Settings) (sequence : Sequence) (takers : List Taker) (givers : List (Giver A)) : Type 0 where
  pub sequence_is : IsSequence sequence
  pub complete : AreComplete sequence.taken
  pub done : IsDone sequence
  pub taken : AreTaken config sequence.taken takers
  pub passed : ArePassedOn config sequence (given_of givers) []
