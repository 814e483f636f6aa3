-- The form of all outcomes of a run of the program: what was asked for is done and has a status, or a fault says why it is not.
-- Source: docs/OUTPUT.md, "Lines of faults" and "Statuses".
use Rattle.std.specs.Prelude.{◌≡◌, ◌≢◌, ℕ, List, Option, Result, Ok, Err, IfOk, IfErr, IsOkAnd}
use Rattle.std.specs.Io.KnownBytes.{Keeps}
use Rattle.gr_record.specs.declared.fault.Fault.{Fault}
use Rattle.gr_record.specs.declared.fault.Fault.TheVariants.{Write}
use Rattle.gr_places.specs.declared.sides_fault.SidesFault.{SidesFault}
use Rattle.gr_places.specs.declared.sides_fault.SidesFault.TheVariants.{Buffers, Places, Run}

-- a status, or the fault that says why there is none
abbrev pub Outcome : Type 0
Outcome = Result ℕ SidesFault

-- a result has a status, or its fault is the outcome's
abbrev pub HasStatus : {X F : Type 0} → (X → ℕ → Type 0) → (F → SidesFault) → Result X F → Outcome → Type 0
HasStatus Ends fault (Ok x) outcome = IsOkAnd outcome (Ends x)
HasStatus Ends fault (Err f) outcome = outcome ≡ Err (fault f)

-- a property of faults without side files
abbrev pub of_run : (Fault → Type 0) → SidesFault → Type 0
of_run IsWhy (Run f) = IsWhy f
of_run IsWhy (Places line) = ⊥
of_run IsWhy (Buffers line) = ⊥

-- standard output before and after, and the outcome; what having a result means, and its status; why there is none, and what a writer that
-- failed has of it
pub record IsOutcome (old new : Option (List ℕ)) (outcome : Outcome) {X : Type 0} (Has : X → Type 0) (Ends : X → ℕ → Type 0) (IsWhy : SidesFault → Type 0) (Prefix : Type 0) : Type 0 where
  pub done : IfOk outcome (λ status. (x : X) × Has x × Ends x status)
  pub why : IfErr outcome IsWhy
  pub untouched : IfErr outcome (λ f. f ≢ Run Write → Keeps old new)
  pub prefix : IfErr outcome (λ f. f ≡ Run Write → Prefix)
