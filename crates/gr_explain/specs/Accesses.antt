-- The accesses of some events, kept as the events are handled.
-- Source: docs/MODEL.md, "Steps" and "Clocks".
use Rattle.std.specs.Prelude.{◌≡◌, ◌≢◌, Contains, IsSome, List, Option, None, Some}
use Rattle.std.specs.Map.{lookup}
use Rattle.gr_explain.specs.Types.{EventId, Race, Access}
use Rattle.gr_model.specs.Prelude.{Streams, word_at, IsGrounded}
use Rattle.gr_clocks.specs.ClockedAccess.{ClockedAccess, clocked}
use Rattle.gr_closure.specs.Accesses.{IsAccess}
use Rattle.gr_shadow.specs.Clashes.{event_of}
use Rattle.gr_explain.specs.Events.{Has, same_event}

-- both events of a pair are wanted
pub record AreWanted (wanted : List EventId) (r : Race) : Type 0 where
  pub first : Has wanted r.first
  pub second : Has wanted r.second

-- the access that is kept of an event
abbrev pub access_at : {Z : Type 0} → List (EventId × Access Z) → EventId → Option (Access Z)
access_at kept e = lookup (same_event e) kept

-- what is kept of an event is its access among these, or nothing where it has none
abbrev pub IsThatOf : {Z : Type 0} → List ClockedAccess → EventId → Option (Access Z) → Type 0
IsThatOf accesses e None = (x : ClockedAccess) → Contains accesses x → event_of x ≢ e
IsThatOf accesses e (Some a) = Contains accesses (clocked a) × (event_of (clocked a) ≡ e)

-- this is so of each wanted event
abbrev pub AreThoseOf : {Z : Type 0} → List EventId → List ClockedAccess → List (EventId × Access Z) → Type 0
AreThoseOf wanted accesses kept = (e : EventId) → Has wanted e → IsThatOf accesses e (access_at kept e)

-- an access is kept of both events of a pair
pub record AreBothThere {Z : Type 0} (kept : List (EventId × Access Z)) (r : Race) : Type 0 where
  pub first : IsSome (access_at kept r.first)
  pub second : IsSome (access_at kept r.second)

-- what is kept of an event is its access, and the event is grounded; where nothing is kept, it is not grounded, or is no access
abbrev pub IsKept : {Z : Type 0} → Streams → EventId → Option (Access Z) → Type 0
IsKept s e None = IsGrounded s e → word_at s e ≡ None
IsKept s e (Some a) = IsGrounded s e × IsAccess s e a

-- this is so of both events of a pair
pub record AreBothKept {Z : Type 0} (s : Streams) (kept : List (EventId × Access Z)) (r : Race) : Type 0 where
  pub first : IsKept s r.first (access_at kept r.first)
  pub second : IsKept s r.second (access_at kept r.second)
