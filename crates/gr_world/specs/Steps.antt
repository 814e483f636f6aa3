-- The steps of a world: what each does if it is allowed, and why it is refused if it is not.
-- Source: docs/MODEL.md, "The world".
use Rattle.std.specs.Prelude.{◌≡◌, ◌⊎◌, ℕ, suc, ◌+◌, ◌≤◌, List, [], ◌∷◌, ◌++◌, length, Option, None, Some, IsTrue, is_some}
use Rattle.gr_world.specs.Types.{Event, EventId, Sent, MOST_RECORDS, GoError, Step, Send, Close, Take, Handle, Meet, Pass, WorkTake, StepError, BadStep, NotOpen, Full, Empty, Busy, NotReady, Memory}
use Rattle.gr_model.specs.Prelude.{IsEventOk, end_of, is_end, HasItem, Streams, is_complete, list_of, size_of, word_at}
use Rattle.gr_steps.specs.Steps.{CanHandle, CanMeet}
use Rattle.gr_closure.specs.Accesses.{IsAccess}
use Rattle.gr_clocks.specs.ClockedAccess.{bare}
use Rattle.gr_order.specs.declared.go_error.GoError.TheVariants.{NotReady as OrderNotReady, Memory as OrderMemory}
use Rattle.gr_order.specs.Sequences.{HandlesEvent, MeetsInstance, Sequence}
use Rattle.gr_shadow.specs.Clashes.{ClockedAccess}
use Rattle.gr_world.specs.Queues.{HasRoom}
use Rattle.gr_world.specs.Worlds.{World, going_on, intake_at, passing, queue_of, sending, taking_front, work_at, worker_of, working}

-- ---- why a step is refused

-- which cause comes from one of the sequencer
abbrev pub Becomes : GoError → StepError → Type 0
Becomes OrderNotReady f = f ≡ NotReady
Becomes OrderMemory f = f ≡ Memory

-- the event is an end, or is not allowed in the group, or leaves no room for the end of the stream
abbrev pub IsBadEvent : World → ℕ → Event → Type 0
IsBadEvent w g x = IsTrue (is_end x) ⊎ ¬ IsEventOk x (size_of w.sent g) ⊎ (MOST_RECORDS ≤ length (list_of w.sent g) + 1)

-- there is no such group, item, queue or worker, or the event must not be sent
abbrev pub IsBad : World → Step → Type 0
IsBad w (Send g x) = (length w.sent.sizes ≤ g) ⊎ IsBadEvent w g x
IsBad w (Close g cut) = length w.sent.sizes ≤ g
IsBad w (Take q) = w.config.queues ≤ q
IsBad w (Handle i) = ¬ HasItem w.sent.sizes i
IsBad w (Meet g) = length w.sent.sizes ≤ g
IsBad w Pass = ⊥
IsBad w (WorkTake k) = w.config.workers ≤ k

-- the group's stream has ended
abbrev pub IsClosed : World → Step → Type 0
IsClosed w (Send g x) = IsTrue (is_complete (list_of w.sent g))
IsClosed w (Close g cut) = IsTrue (is_complete (list_of w.sent g))
IsClosed w _ = ⊥

-- the queue that the step pushes into has no room
abbrev pub IsInFlightFull : World → Option ClockedAccess → Type 0
IsInFlightFull w None = ⊥
IsInFlightFull w (Some x) = ¬ HasRoom (work_at w (worker_of w x)).queue

abbrev pub IsStepFull : World → Step → Type 0
IsStepFull w (Send g x) = ¬ HasRoom (intake_at w (queue_of w g))
IsStepFull w (Close g cut) = ¬ HasRoom (intake_at w (queue_of w g))
IsStepFull w Pass = IsInFlightFull w w.in_flight
IsStepFull w _ = ⊥

-- there is nothing to take or to pass on
abbrev pub IsStepEmpty : World → Step → Type 0
IsStepEmpty w (Take q) = (intake_at w q).items ≡ []
IsStepEmpty w Pass = w.in_flight ≡ None
IsStepEmpty w (WorkTake k) = (work_at w k).queue.items ≡ []
IsStepEmpty w _ = ⊥

-- an access is on its way, and an event is to be handled
abbrev pub IsBusy : World → Step → Type 0
IsBusy w (Handle i) = IsTrue (is_some w.in_flight)
IsBusy w _ = ⊥

-- no event of the item can be handled, or no instance of the group can meet
abbrev pub IsNotReady : World → Step → Type 0
IsNotReady w (Handle i) = ¬ CanHandle w.sequence.taken w.sequence.handled i
IsNotReady w (Meet g) = ¬ CanMeet w.sequence.taken w.sequence.handled g
IsNotReady w _ = ⊥

-- none of the causes holds
pub record IsAllowed (w : World) (step : Step) : Type 0 where
  pub good : ¬ IsBad w step
  pub unclosed : ¬ IsClosed w step
  pub room : ¬ IsStepFull w step
  pub some : ¬ IsStepEmpty w step
  pub free : ¬ IsBusy w step
  pub ready : ¬ IsNotReady w step

-- a cause is given only if no earlier one holds; memory can run out only at a step that is allowed
abbrev pub IsStepRefusal : World → Step → StepError → Type 0
IsStepRefusal w step BadStep = IsBad w step
IsStepRefusal w step NotOpen = ¬ IsBad w step × IsClosed w step
IsStepRefusal w step Full = ¬ IsBad w step × ¬ IsClosed w step × IsStepFull w step
IsStepRefusal w step Empty = ¬ IsBad w step × IsStepEmpty w step
IsStepRefusal w step Busy = ¬ IsBad w step × IsBusy w step
IsStepRefusal w step NotReady = ¬ IsBad w step × ¬ IsBusy w step × IsNotReady w step
IsStepRefusal w step Memory = IsAllowed w step

-- ---- what a step does

-- the access of an event, or none if the event has no word
abbrev pub IsInFlightOf : Streams → EventId → Option ClockedAccess → Type 0
IsInFlightOf s e None = word_at s e ≡ None
IsInFlightOf s e (Some x) = IsAccess s e (bare x)

-- what the step leads to
abbrev pub LeadsTo : World → Step → World → Type 0
-- a record goes to the end of what its group sent, and to the end of its queue
LeadsTo w (Send g x) new = new ≡ sending w g x
LeadsTo w (Close g cut) new = new ≡ sending w g (end_of cut)
-- the record at the front of the queue was taken
LeadsTo w (Take q) new = (s : Sent) × (rest : List Sent) × ((intake_at w q).items ≡ s ∷ rest) × (new ≡ taking_front w q s rest)
-- an event of the item was handled, and its access, if it has one, is on its way
LeadsTo w (Handle i) new =
    (e : EventId) × (in_flight : Option ClockedAccess) × (sequence : Sequence)
    × (e.at ≡ i) × HandlesEvent w.sequence e sequence × IsInFlightOf sequence.taken e in_flight × (new ≡ going_on w sequence in_flight)
-- an instance of the group has met
LeadsTo w (Meet g) new = (k : ℕ) × (sequence : Sequence) × MeetsInstance w.sequence g k sequence × (new ≡ going_on w sequence w.in_flight)
-- the access on its way was queued for its word's worker
LeadsTo w Pass new = (x : ClockedAccess) × (w.in_flight ≡ Some x) × (new ≡ passing w x)
-- the worker received the access at the front of its queue
LeadsTo w (WorkTake k) new = (x : ClockedAccess) × (rest : List ClockedAccess) × ((work_at w k).queue.items ≡ x ∷ rest) × (new ≡ working w k x rest)

-- a step that is allowed was made
pub record IsWorldStep (old : World) (step : Step) (new : World) : Type 0 where
  pub allowed : IsAllowed old step
  pub leads : LeadsTo old step new

-- ---- lists of steps

-- the steps were tried one after another, and this number of them was refused
pub data Runs (old : World) : List Step → World → ℕ → Type 0 where
  nothing_tried : Runs old [] old 0
  made : {steps : List Step} {w new : World} {refused : ℕ} (step : Step) → Runs old steps w refused → IsWorldStep w step new → Runs old (steps ++ step ∷ []) new refused
  refused_once : {steps : List Step} {w : World} {refused : ℕ} (step : Step) (error : StepError) → Runs old steps w refused → IsStepRefusal w step error → Runs old (steps ++ step ∷ []) w (suc refused)
