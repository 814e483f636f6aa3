-- Which events may be handled after those that were, which barriers may meet, and what the order of the handled events is then.
-- Source: docs/MODEL.md, "Steps". That the barriers of an instance are passed together is OpenCL's (OpenCL C 2.0 specification, `work_group_barrier`).
use Rattle.std.specs.Prelude.{◌≡◌, ◌↔◌, ℕ, ◌<◌, List, [], ◌∷◌, ◌++◌, length, Some, slice_get}
use Rattle.gr_steps.specs.Types.{EventId, ItemId}
use Rattle.gr_model.specs.Prelude.{Mark, Streams, IsEvent, size_of, HasItsReleases, StandsIn, IsConvergent, IsDivergent, Waits, IsPrevious, IsGrounded, IsIn}

-- ---- what may be done

-- an event is the next to be handled in its item: it is not handled, all that it waits for is there and is handled, and it is no barrier of a convergent or waiting instance
pub record IsReady (s : Streams) (handled : List EventId) (e : EventId) : Type 0 where
  pub event : IsEvent s e
  pub fresh : ¬ IsIn handled e
  pub release : HasItsReleases s e
  pub waits : (d : EventId) → Waits s e d → IsIn handled d
  pub instance : (g k : ℕ) → StandsIn s e g k → IsDivergent s g k

-- a barrier of an instance was handled
abbrev pub HasMet : Streams → List EventId → ℕ → ℕ → Type 0
HasMet s handled g k = (b : EventId) × StandsIn s b g k × IsIn handled b

-- an instance is the least convergent one of its group that is not handled, and the event before each of its barriers is
pub record IsMeeting (s : Streams) (handled : List EventId) (g k : ℕ) (a : Mark) : Type 0 where
  pub convergent : IsConvergent s g k a
  pub fresh : ¬ HasMet s handled g k
  pub least : (l : ℕ) (b : Mark) → l < k → IsConvergent s g l b → HasMet s handled g l
  pub before : (b d : EventId) → StandsIn s b g k → IsPrevious d b → IsIn handled d

-- some event of an item may be handled, and some instance of a group may meet
abbrev pub CanHandle : Streams → List EventId → ItemId → Type 0
CanHandle s handled i = (e : EventId) × (e.at ≡ i) × IsReady s handled e

abbrev pub CanMeet : Streams → List EventId → ℕ → Type 0
CanMeet s handled g = (k : ℕ) × (a : Mark) × IsMeeting s handled g k a

-- ---- what is done

-- the barriers of an instance, in the order of their items
pub record AreBarriers (s : Streams) (g k : ℕ) (barriers : List EventId) : Type 0 where
  pub count : length barriers ≡ size_of s g
  pub each : (i : ℕ) (b : EventId) → slice_get barriers i ≡ Some b → (b.at.item ≡ i) × StandsIn s b g k

-- e is handled
pub record Handles (s : Streams) (old : List EventId) (e : EventId) (new : List EventId) : Type 0 where
  pub ready : IsReady s old e
  pub order : new ≡ old ++ e ∷ []

-- instance k of group g meets
pub record Meets (s : Streams) (old : List EventId) (g k : ℕ) (new : List EventId) : Type 0 where
  pub mark : Mark
  pub meeting : IsMeeting s old g k mark
  pub barriers : List EventId
  pub are : AreBarriers s g k barriers
  pub order : new ≡ old ++ barriers

-- ---- when nothing is left to do

-- no event may be handled, and no instance may meet
pub record IsAtRest (s : Streams) (handled : List EventId) : Type 0 where
  pub handles : (i : ItemId) → ¬ CanHandle s handled i
  pub meets : (g : ℕ) → ¬ CanMeet s handled g

-- the handled events are the grounded ones
abbrev pub AreGrounded : Streams → List EventId → Type 0
AreGrounded s handled = (e : EventId) → IsIn handled e ↔ IsGrounded s e

-- ---- how many were handled

-- the handled events of each item are its first ones, as many as c says
abbrev pub AreFirst : List EventId → (ItemId → ℕ) → Type 0
AreFirst handled c = (e : EventId) → IsIn handled e ↔ (e.index < c e.at)
