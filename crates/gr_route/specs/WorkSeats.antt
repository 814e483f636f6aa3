-- What contracts see of a work queue's seats.
-- Source: docs/QUEUES.md, "The work queue".
use Rattle.std.specs.Prelude.{◌≡◌, Bool, false, List, [], ◌++◌, Option, IfSome}
use Rattle.atomic_table.specs.Seated.{TableId}
use Rattle.crossbeam_queue.specs.Passes.{view}
use Rattle.gr_route.specs.Types.{Joined, Work}
use Rattle.gr_route.specs.Batches.{front}
use Rattle.gr_route.specs.Prefixes.{EndsWith, StartsWith}
use Rattle.gr_route.specs.Rooms.{AgreesWith}
use Rattle.gr_route.specs.Rule.{PassOf, seat_of, taker_of}
use Rattle.gr_route.specs.WorkRule.{SeatsAgree, StopsLast, given_of, sizes_of}

-- the seat's queue, and what it pushed
pub record Giver (A : Type 0) : Type 0 where
  pub queue : TableId
  pub pushed : List (Work A)

-- the seat's queue, what it popped, whether the giver's seat was split off, and, if that was joined back, what it had pushed
pub record Worker (A : Type 0) : Type 0 where
  pub queue : TableId
  pub popped : List (Work A)
  pub split : Bool
  pub given : Option (List (Work A))

module _ {A : Type 0} where
  -- what is seen of the worker's pass, if the giver's seat was split off or not, and this is left of the batch that was popped last
  abbrev pub worker_seen : PassOf (Work A) (Work A) → Bool → List (Work A) → Worker A
  worker_seen pass split rest = record { queue = pass.table_id; popped = front (view pass).popped rest; split = split; given = given_of (view pass).joined }

  -- in what was popped `Stop` comes last if at all; nothing was popped if there was no giver; if the giver's seat was joined back, what it pushed begins with what was popped
  pub record IsDelivery (w : Worker A) : Type 0 where
    pub stops : StopsLast w.popped
    pub unsplit : w.split ≡ false → w.popped ≡ []
    pub prefix : IfSome w.given (λ all. StartsWith all w.popped × StopsLast all)

  -- ---- what agrees with a seat

  -- what the queue holds agrees with what the giver's seat knows, and with what the worker's seat knows
  abbrev pub AgreesWithGiver : Giver A → List (Work A) → Type 0
  AgreesWithGiver g = AgreesWith SeatsAgree (seat_of 0 1 g.pushed)

  abbrev pub AgreesWithWorker : Worker A → List (Work A) → Type 0
  AgreesWithWorker w items = (joined : List (Joined (Work A))) × (given_of joined ≡ w.given) × AgreesWith SeatsAgree (taker_of w.popped (sizes_of w.split) joined) items

  -- in what was popped, followed by what the queue holds, `Stop` comes last if at all; it is nothing if there was no giver, and all that the giver pushed if its seat was joined back
  pub record IsBeforeWorker (w : Worker A) (items : List (Work A)) : Type 0 where
    pub stops : StopsLast (w.popped ++ items)
    pub unsplit : w.split ≡ false → w.popped ++ items ≡ []
    pub given : IfSome w.given (λ all. all ≡ w.popped ++ items)

-- ---- laws

-- what agrees with a seat: the queue holds the end of what the giver pushed
abbrev pub GiverTells : Type 0 → Type 0
GiverTells A = (g : Giver A) (items : List (Work A)) → AgreesWithGiver g items → EndsWith g.pushed items

abbrev pub WorkerTells : Type 0 → Type 0
WorkerTells A = (w : Worker A) (items : List (Work A)) → AgreesWithWorker w items → IsBeforeWorker w items
