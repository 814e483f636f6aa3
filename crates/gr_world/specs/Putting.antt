-- The sending of a record.
use Rattle.std.specs.Prelude.{◌≡◌, ℕ, IsTrue}
use Rattle.gr_world.specs.Types.{Event, StepError, NotOpen, Full, Memory}
use Rattle.gr_model.specs.Prelude.{is_complete, list_of}
use Rattle.gr_world.specs.Queues.{HasRoom}
use Rattle.gr_world.specs.Worlds.{World, intake_at, queue_of, sending}

-- the group's stream has no end, and there is room in its queue
pub record MayPut (w : World) (g : ℕ) : Type 0 where
  pub unclosed : ¬ IsTrue (is_complete (list_of w.sent g))
  pub room : HasRoom (intake_at w (queue_of w g))

-- a record was sent
pub record Queues (old : World) (g : ℕ) (x : Event) (new : World) : Type 0 where
  pub may : MayPut old g
  pub sends : new ≡ sending old g x

-- why it was not sent
abbrev pub IsPutFault : World → ℕ → StepError → Type 0
IsPutFault w g NotOpen = IsTrue (is_complete (list_of w.sent g))
IsPutFault w g Full = (¬ IsTrue (is_complete (list_of w.sent g))) × ¬ HasRoom (intake_at w (queue_of w g))
IsPutFault w g Memory = MayPut w g
IsPutFault w g _ = ⊥
