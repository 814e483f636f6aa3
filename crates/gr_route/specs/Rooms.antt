-- A bounded queue, as contracts see it, and what a seat knows of what the queue holds.
-- Source: docs/QUEUES.md, "Full and empty".
use Rattle.std.specs.Prelude.{◌≡◌, ℕ, List}
use mathlib.Core.Option.{some}
use lib.ListN.{get_elem?}
use Rattle.atomic_table.specs.Seated.{TableId}

-- which queue it is, and for how many values it has room
pub record Room : Type 0 where
  pub queue : TableId
  pub places : ℕ

-- what a queue holds agrees with what a seat knows: the rule holds of it and of what all seats know, this seat among them
abbrev pub AgreesWith : {T V : Type 0} → (List T → List V → Type 0) → V → List T → Type 0
AgreesWith {T} {V} holds v items = (views : List V) × (pass : ℕ) × (get_elem? views pass ≡ some v) × holds items views
