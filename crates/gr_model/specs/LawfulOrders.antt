-- The orders in which a closed set of events may be taken.
-- Source: docs/MODEL.md, "Lawful orders".
use Rattle.std.specs.Prelude.{◌≡◌, ℕ, ◌+◌, ◌<◌, Some, List, slice_get}
use Rattle.gr_model.specs.declared.event.EventId.{EventId}
use Rattle.gr_model.specs.Instances.{Mark}
use Rattle.gr_model.specs.Streams.{Streams, IsEvent}
use Rattle.gr_model.specs.Barriers.{Together}
use Rattle.gr_model.specs.Waits.{Waits, IsSettled, IsGrounded}

-- an event is in an order at a place, or somewhere
abbrev pub IsAt : List EventId → ℕ → EventId → Type 0
IsAt order p e = slice_get order p ≡ Some e

abbrev pub IsIn : List EventId → EventId → Type 0
IsIn order e = (p : ℕ) × IsAt order p e

-- a list of events that has, with an event, all that it waits for, and with a barrier of a convergent instance all barriers of it
pub record IsLawful (s : Streams) (order : List EventId) : Type 0 where
  -- each is an event that waits for nothing that is not there
  pub event : (p : ℕ) (e : EventId) → IsAt order p e → IsEvent s e × IsSettled s e
  -- each is there once
  pub once : (p q : ℕ) (e : EventId) → IsAt order p e → IsAt order q e → p ≡ q
  -- each comes after all that it waits for
  pub after : (p : ℕ) (e d : EventId) → IsAt order p e → Waits s e d → (q : ℕ) × (q < p) × IsAt order q d
  -- the barriers of a convergent instance are side by side, in the order of their items
  pub together : (p : ℕ) (e b : EventId) (a : Mark) → IsAt order p e → Together s a e b → (q : ℕ) × (q + e.at.item ≡ p + b.at.item) × IsAt order q b

-- a lawful order of all grounded events
pub record IsWholeOrder (s : Streams) (order : List EventId) : Type 0 where
  pub lawful : IsLawful s order
  pub whole : (e : EventId) → IsGrounded s e → IsIn order e
