-- Events that are held, and for which events they wait.
-- Source: docs/MODEL.md, "What waits for what".
use Rattle.std.specs.Prelude.{◌≡◌, ◌<◌, ℕ, Some}
use Rattle.gr_timeline.specs.Types.{EventId, Name}
use Rattle.gr_model.specs.Prelude.{StandsIn, Together, is_barrier, Mark, MatchesBy, IsEvent, Streams, place_of, IsGrounded, IsPrevious}
use Rattle.gr_lanes.specs.Remembered.{Remembered, forgotten_of}

-- an event that is there and is not grounded
pub record IsHeldEvent (s : Streams) (e : EventId) : Type 0 where
  pub event : IsEvent s e
  pub held : ¬ IsGrounded s e

-- all events before it in its item are grounded
abbrev pub IsPassed : Streams → EventId → Type 0
IsPassed s e = (d : EventId) → d.at ≡ e.at → d.index < e.index → IsGrounded s d

-- it is the first event of its item that is held
pub record IsFirstHeld (s : Streams) (e : EventId) : Type 0 where
  pub held : ¬ IsGrounded s e
  pub passed : IsPassed s e

-- d is the event before a barrier of the convergent instance to which e, a barrier too, belongs: e waits for its arrival
pub record IsArrival (s : Streams) (e d : EventId) : Type 0 where
  pub mark : Mark
  pub barrier : EventId
  pub together : Together s mark e barrier
  pub previous : IsPrevious d barrier

-- the release of one of its names is there, on its word, and grounded
abbrev pub HasGroundedRelease : Streams → EventId → Name → Type 0
HasGroundedRelease s e n = (d : EventId) × MatchesBy s n e d × IsGrounded s d

-- the event before some barrier of an instance is held
pub record IsLate (s : Streams) (g k : ℕ) (d : EventId) : Type 0 where
  pub barrier : EventId
  pub stands : StandsIn s barrier g k
  pub previous : IsPrevious d barrier
  pub held : ¬ IsGrounded s d

-- the event before each barrier of an instance is grounded
abbrev pub HaveArrived : Streams → ℕ → ℕ → Type 0
HaveArrived s g k = (b d : EventId) → StandsIn s b g k → IsPrevious d b → IsGrounded s d

-- each barrier of an instance that is forgotten is grounded
abbrev pub ForgetsGrounded : Remembered → Type 0
ForgetsGrounded r = (e : EventId) (k : ℕ) → place_of r.streams is_barrier e.at k ≡ Some e.index → k < forgotten_of r e.at.group → IsGrounded r.streams e

-- some event that belongs to an instance is held
abbrev pub IsStuck : Streams → ℕ → ℕ → Type 0
IsStuck s g k = (e : EventId) × StandsIn s e g k × ¬ IsGrounded s e
