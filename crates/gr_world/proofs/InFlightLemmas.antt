-- A world in which an event was handled, an instance met, or an access went on, is a world.
use Rattle.gr_model.proofs.Common.{◌≡◌, ◌≢◌, ℕ, ◌<◌, ◌≤◌, true≢false, IsFalse, IsTrue, Bool, true, false, List, [], ◌∷◌, ◌++◌, length, get_or, set, Option, Some, None, refl, sym, ap, ◌∙◌, subst, arith, append_assoc, append-nil, eq-eqb, ne_eqb, mod-lt, option_map, is_some, get_or_default, length-set, set-get_or, filter-append}
use Rattle.gr_world.specs.Types.{EventId, Word, Access, GoError, Handle, Meet, Pass, WorkTake, StepError}
use Rattle.gr_model.specs.declared.event.Word.TheVariants.{Global, Local}
use Rattle.gr_model.specs.Prelude.{worker_number, Streams, HasItem}
use Rattle.gr_model.specs.declared.event.ItemId.{ItemId}
use Rattle.gr_closure.specs.Accesses.{IsAccessOf}
use Rattle.gr_closure.specs.AccessesAlong.{AreAccesses, in_flight_list}
use Rattle.gr_closure.proofs.Adding.{bare_access, handled_adds, met_add_none, others_add_none}
use Rattle.gr_order.specs.Sequences.{HandlesEvent, IsSequence, MeetsInstance, Sequence}
use Rattle.gr_order.specs.Answers.{IsHandleFault, IsMeetFault}
use Rattle.gr_order.specs.declared.go_error.GoError.TheVariants.{NotReady as OrderNotReady, Memory as OrderMemory}
use Rattle.gr_shadow.specs.Clashes.{ClockedAccess, clocked}
use Rattle.gr_steps.specs.Steps.{CanHandle, CanMeet}
use Rattle.gr_world.specs.Steps.{Becomes, IsAllowed, IsInFlightFull, IsInFlightOf, IsStepRefusal, IsWorldStep}
use Rattle.gr_world.specs.Queues.{HasRoom, Receives, Work, no_work, queueing, receiving}
use Rattle.gr_world.specs.Worlds.{AreDelivered, ArePassedOn, IsPassedOn, IsWorld, World, accesses_for, going_on, passing, work_at, worker_of, working}
use Rattle.gr_world.proofs.Changes.{where_set}

-- ---- the sequencer's steps

-- the accesses along the order after an event was handled
accesses_after : (old new : Sequence) (e : EventId) (in_flight : Option ClockedAccess) (accesses : List ClockedAccess) → HandlesEvent old e new → IsInFlightOf new.taken e in_flight → AreAccesses old.taken old.handled accesses → AreAccesses new.taken new.handled (accesses ++ in_flight_list in_flight)
accesses_after old new e (Some x) accesses h is are = rw (h.taken) (handled_adds old.taken old.handled new.handled e accesses x h.handles are (rw (h.taken) at is))
accesses_after old new e None accesses h is are = rw (h.taken, append-nil) (others_add_none old.taken old.handled new.handled e accesses h.handles are (rw (h.taken) at is))

-- a world whose sequence goes on with the same taken lists
going_is_world : (w : World) → IsWorld w → (sequence : Sequence) (in_flight : Option ClockedAccess) → IsSequence sequence → sequence.taken ≡ w.sequence.taken → (accesses : List ClockedAccess) → AreAccesses sequence.taken sequence.handled accesses → ((k : ℕ) → k < w.config.workers → IsPassedOn (going_on w sequence in_flight) accesses k) → IsWorld (going_on w sequence in_flight)
going_is_world w world sequence in_flight lawful same accesses along each =
    let sizes = ap (λ (s : Streams). s.sizes) same ∙ world.sizes in
    let delivered : AreDelivered (going_on w sequence in_flight) = record { whole = λ g. rw (same) (world.delivered.whole g); own = world.delivered.own } in
    let passed : ArePassedOn (going_on w sequence in_flight) = record { accesses = accesses; along = along; each = each } in
    assumption (lawful, sizes, delivered, passed, world)

pub handling_is_world : (w : World) → IsWorld w → (e : EventId) (sequence : Sequence) (in_flight : Option ClockedAccess) → w.in_flight ≡ None → HandlesEvent w.sequence e sequence → IsInFlightOf sequence.taken e in_flight → IsSequence sequence → IsWorld (going_on w sequence in_flight)
handling_is_world w world e sequence in_flight free h is lawful = going_is_world w world sequence in_flight lawful h.taken (world.passed.accesses ++ in_flight_list in_flight)
    (accesses_after w.sequence sequence e in_flight world.passed.accesses h is world.passed.along)
    (λ k lt. rw (filter-append, world.passed.each k lt, free, append-nil))

pub meeting_is_world : (w : World) → IsWorld w → (g k : ℕ) (sequence : Sequence) → MeetsInstance w.sequence g k sequence → IsSequence sequence → IsWorld (going_on w sequence w.in_flight)
meeting_is_world w world g k sequence h lawful = going_is_world w world sequence w.in_flight lawful h.taken world.passed.accesses
    (rw (h.taken) (met_add_none w.sequence.taken w.sequence.handled sequence.handled g k world.passed.accesses h.meets world.passed.along))
    world.passed.each

-- ---- workers

pub word_below : (w : World) → IsWorld w → (v : Word) → worker_number v w.config.workers < w.config.workers
word_below w world (Global n) = mod-lt n world.config.workers.0
word_below w world (Local g n) = mod-lt _ world.config.workers.0

-- a world in which one worker's work, and what is on its way, changed
working_is_world : (w : World) → IsWorld w → (k : ℕ) (work : Work) (in_flight : Option ClockedAccess) → k < w.config.workers → work.queue.places ≡ (work_at w k).queue.places
    → work.received ++ work.queue.items ++ accesses_for w k (in_flight_list in_flight) ≡ (work_at w k).received ++ (work_at w k).queue.items ++ accesses_for w k (in_flight_list w.in_flight)
    → ((j : ℕ) → j ≢ k → accesses_for w j (in_flight_list in_flight) ≡ accesses_for w j (in_flight_list w.in_flight))
    → IsWorld (record w { in_flight = in_flight; workers = set w.workers k work })
working_is_world w world k work in_flight there same mine others =
    let new : World = record w { in_flight = in_flight; workers = set w.workers k work } in
    let within : k < length w.workers = omega (arith, there, world.worker_count) in
    let worker_count = length-set w.workers k work ∙ world.worker_count in
    let places = where_set (λ j x. j < w.config.workers → x.queue.places ≡ w.config.capacity) w.workers k work (no_work 0) within (λ lt. same ∙ world.workers k lt) (λ j _. world.workers j) in
    let delivered : AreDelivered new = record { whole = world.delivered.whole; own = world.delivered.own } in
    let passed : ArePassedOn new = record {
      accesses = world.passed.accesses;
      along = world.passed.along;
      each = where_set (λ j x. j < w.config.workers → accesses_for w j world.passed.accesses ≡ x.received ++ x.queue.items ++ accesses_for w j (in_flight_list in_flight)) w.workers k work (no_work 0) within
          (λ lt. world.passed.each k lt ∙ sym mine)
          (λ j apart lt. world.passed.each j lt ∙ ap (λ (l : List ClockedAccess). (work_at w j).received ++ (work_at w j).queue.items ++ l) (sym (others j apart)));
    } in
    assumption (worker_count, places, delivered, passed, world)

pub passing_is_world : (w : World) → IsWorld w → (x : ClockedAccess) → w.in_flight ≡ Some x → IsWorld (passing w x)
passing_is_world w world x in_flight = working_is_world w world (worker_of w x) (queueing (work_at w (worker_of w x)) x) None (word_below w world x.word) refl
    (simp (in_flight, eq-eqb (worker_of w x) (worker_of w x) refl, append-nil, append_assoc))
    (λ j apart. rw (in_flight, ne_eqb (worker_of w x) j (λ same. apart (sym same))))

pub receiving_is_world : (w : World) → IsWorld w → (k : ℕ) (x : ClockedAccess) (rest : List ClockedAccess) → k < w.config.workers → (work_at w k).queue.items ≡ x ∷ rest → IsWorld (working w k x rest)
receiving_is_world w world k x rest there front = working_is_world w world k (receiving (work_at w k) x rest) w.in_flight there refl
    (simp (front, append_assoc))
    (λ j apart. refl)

-- an access goes on to its worker's queue
module _ (w : World) (world : IsWorld w) (x : ClockedAccess) (k : ℕ) (b : Work) (in_flight : w.in_flight ≡ Some x) (same : k ≡ worker_of w x) (at : b ≡ get_or w.workers k b) where
  now_there : b ≡ work_at w (worker_of w x)
  now_there = at ∙ ap (λ n. get_or w.workers n b) same ∙ get_or_default w.workers (worker_of w x) b (no_work 0) (let there = word_below w world x.word in omega (arith, there, world.worker_count))

  module _ (o : Option ClockedAccess) (work : Work) (empty : o ≡ None) (queued : work ≡ queueing b x) where
    passed_is : record w { in_flight = o; workers = set w.workers k work } ≡ passing w x
    passed_is = λ i. record w { in_flight = empty i; workers = set w.workers (same i) ((queued ∙ ap (λ (y : Work). queueing y x) now_there) i) }

    pub passed_is_world : IsWorld (record w { in_flight = o; workers = set w.workers k work })
    passed_is_world = subst IsWorld (sym passed_is) (passing_is_world w world x in_flight)

    pub passed_is_step : HasRoom b.queue → IsWorldStep w Pass (record w { in_flight = o; workers = set w.workers k work })
    passed_is_step room =
        let free : ¬ IsInFlightFull w w.in_flight = λ full. (rw (in_flight, ← now_there) at full) room in
        let some : w.in_flight ≢ None = λ none. absurd (cc) in
        record { allowed = search; leads = (x, in_flight, passed_is) }

-- a worker looks at its queue
module _ (w : World) (world : IsWorld w) (k : ℕ) (b : Work) (at : b ≡ get_or w.workers k b) (there : k < length w.workers) where
  now_here : b ≡ work_at w k
  now_here = at ∙ get_or_default w.workers k b (no_work 0) there

  good : ¬ (w.config.workers ≤ k)
  good bad = omega (arith, bad, there, world.worker_count)

  pub receive_allowed : ¬ (b.queue.items ≡ []) → IsAllowed w (WorkTake k)
  receive_allowed some =
      let fine = good in
      let full : (work_at w k).queue.items ≢ [] = rw (now_here) at some in
      search

  module _ (work : Work) (f : Bool) (receives : Receives b f work) (some : f ≡ true) where
    received : Receives (work_at w k) true work
    received = subst (λ y. Receives y true work) now_here (subst (λ t. Receives b t work) some receives)

    received_is : record w { workers = set w.workers k work } ≡ working w k received.0 received.1
    received_is = λ i. record w { workers = set w.workers k (received.3 i) }

    pub received_is_world : IsWorld (record w { workers = set w.workers k work })
    received_is_world = subst IsWorld (sym received_is) (receiving_is_world w world k received.0 received.1 (omega (arith, there, world.worker_count)) received.2)

    pub received_is_step : IsWorldStep w (WorkTake k) (record w { workers = set w.workers k work })
    received_is_step =
        let fine = good in
        let full : (work_at w k).queue.items ≢ [] = λ empty. let is = received.2 in absurd (cc) in
        record { allowed = search; leads = (received.0, received.1, received.2, received_is) }

-- if the worker does not change, the world does not
pub unreceived : {b : Work} (work : Work) (f : Bool) → Receives b f work → f ≡ false → work ≡ b
unreceived {b = b} work f receives none = (subst (λ t. Receives b t work) none receives).1

pub worker_back : (w : World) (k : ℕ) (b old : Work) → b ≡ old → old ≡ get_or w.workers k old → record w { workers = set w.workers k b } ≡ w
worker_back w k b old is at = λ i. record w { workers = (ap (set w.workers k) (is ∙ at) ∙ set-get_or w.workers k old) i }

-- ---- what is seen of an access that is on its way

pub no_in_flight : {Z : Type 0} (in_flight : Option (Access Z)) → IsFalse (is_some in_flight) → option_map clocked in_flight ≡ None
no_in_flight None none = refl
no_in_flight (Some x) none = absurd (true≢false none)

pub in_flight_of : {Z : Type 0} (s : Streams) (e : EventId) (access : Option (Access Z)) → IsAccessOf s e access → IsInFlightOf s e (option_map clocked access)
in_flight_of s e None is = is
in_flight_of s e (Some a) is = bare_access s e a is

-- ---- steps

module _ (w : World) (i : ItemId) (there : HasItem w.sent.sizes i) (free : w.in_flight ≡ None) where
  not_busy : ¬ IsTrue (is_some w.in_flight)
  not_busy = rw free (λ busy. true≢false (sym busy))

  pub handled_is_step : (e : EventId) (sequence : Sequence) (in_flight : Option ClockedAccess) → e.at ≡ i → HandlesEvent w.sequence e sequence → IsInFlightOf sequence.taken e in_flight → IsWorldStep w (Handle i) (going_on w sequence in_flight)
  handled_is_step e sequence in_flight at h is =
      let idle = not_busy in
      let here = there in
      let ready : CanHandle w.sequence.taken w.sequence.handled i = (e, at, h.handles.ready) in
      record { allowed = search; leads = (e, in_flight, sequence, at, h, is, refl) }

  pub handle_refused : (e : GoError) (f : StepError) → Becomes e f → IsHandleFault w.sequence i e → IsStepRefusal w (Handle i) f
  handle_refused OrderNotReady f is fault = rw (is) ((λ bad. bad there), not_busy, λ can. fault can)
  handle_refused OrderMemory f is fault = let idle = not_busy in let here = there in rw (is) (search)

module _ (w : World) (g : ℕ) (there : g < length w.sent.sizes) where
  group_good : ¬ (length w.sent.sizes ≤ g)
  group_good bad = omega (arith, bad, there)

  pub met_is_step : (k : ℕ) (sequence : Sequence) → MeetsInstance w.sequence g k sequence → IsWorldStep w (Meet g) (going_on w sequence w.in_flight)
  met_is_step k sequence h =
      let fine = group_good in
      let ready : CanMeet w.sequence.taken w.sequence.handled g = (k, h.meets.mark, h.meets.meeting) in
      record { allowed = search; leads = (k, sequence, h, refl) }

  pub meet_refused : (e : GoError) (f : StepError) → Becomes e f → IsMeetFault w.sequence g e → IsStepRefusal w (Meet g) f
  meet_refused OrderNotReady f is fault = rw (is) (group_good, (λ none. none), λ can. fault can)
  meet_refused OrderMemory f is fault = let fine = group_good in rw (is) (search)
