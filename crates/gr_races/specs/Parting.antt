-- Divergent instances of barriers that lie between two events of one work-group.
-- Source: docs/OUTPUT.md, "explain --long". They are this project's own.
use Rattle.std.specs.Prelude.{◌≡◌, ◌⊎◌, ℕ, ◌<◌, ◌≤◌, Some}
use Rattle.gr_model.specs.declared.event.EventId.{EventId}
use Rattle.gr_model.specs.Prelude.{IsDivergent, is_barrier, Streams, place_of}

-- an event comes after its item's barrier of an instance
abbrev pub IsBehind : Streams → EventId → ℕ → Type 0
IsBehind s e k = (p : ℕ) × (place_of s is_barrier e.at k ≡ Some p) × (p < e.index)

-- an event comes after an instance, another event does not, and the instance is divergent
pub record IsParting (s : Streams) (k : ℕ) (e f : EventId) : Type 0 where
  pub behind : IsBehind s e k
  pub not_behind : ¬ IsBehind s f k
  pub divergent : IsDivergent s e.at.group k

-- a divergent instance lies between two events of one group
abbrev pub AreParted : Streams → EventId → EventId → Type 0
AreParted s e f = (k : ℕ) × (IsParting s k e f ⊎ IsParting s k f e)

-- an instance of a group, from one number to below another, is divergent
abbrev pub HasDivergent : Streams → (g from to : ℕ) → Type 0
HasDivergent s g from to = (k : ℕ) × (from ≤ k) × (k < to) × IsDivergent s g k
