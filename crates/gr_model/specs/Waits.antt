-- What an event waits for, and which events are ever reached.
-- Source: docs/MODEL.md, "What waits for what". That no item passes a barrier before all have come is OpenCL's (`work_group_barrier`); that an acquire waits for the release that it names follows from "synchronizes-with" (OpenCL 2.0 specification, section 3.3, memory model).
use Rattle.std.specs.Prelude.{◌≡◌, ◌⊎◌, ℕ, zero, suc}
use Rattle.gr_model.specs.declared.event.EventId.{EventId}
use Rattle.gr_model.specs.Instances.{Mark}
use Rattle.gr_model.specs.Streams.{Streams, IsEvent}
use Rattle.gr_model.specs.Names.{Matches, HasItsReleases}
use Rattle.gr_model.specs.Barriers.{StandsIn, Together, IsConvergent, IsDivergent}

-- d is the event directly before e in its item
pub record IsPrevious (d e : EventId) : Type 0 where
  pub item : d.at ≡ e.at
  pub next : suc d.index ≡ e.index

-- e waits for d
pub data Waits (s : Streams) (e d : EventId) : Type 0 where
  -- the event before it in its item
  for_previous : IsPrevious d e → Waits s e d
  -- the release that it matches, of inclusive scope or not
  for_release : Matches s e d → Waits s e d
  -- the event before each barrier of its convergent instance
  for_arrival : (a : Mark) (b : EventId) → Together s a e b → IsPrevious d b → Waits s e d
  -- each barrier of the convergent instance that comes directly before it
  for_meeting : (a : Mark) (c : EventId) → IsPrevious c e → Together s a c d → Waits s e d

-- all that e waits for exists: the releases that it names are there with its word, and its instance is convergent or divergent
pub record IsSettled (s : Streams) (e : EventId) : Type 0 where
  pub release : HasItsReleases s e
  pub instance : (g k : ℕ) → StandsIn s e g k → ((a : Mark) × IsConvergent s g k a) ⊎ IsDivergent s g k

-- stage 0 has no event, and each later stage the events all of whose waits are in the one before it
abbrev pub Stage : Streams → ℕ → EventId → Type 0
Stage s zero e = ⊥
Stage s (suc n) e = IsEvent s e × IsSettled s e × ((d : EventId) → Waits s e d → Stage s n d)

-- an event is grounded: in some stage
abbrev pub IsGrounded : Streams → EventId → Type 0
IsGrounded s e = (n : ℕ) × Stage s n e
