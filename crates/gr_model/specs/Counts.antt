-- What a vector clock counts.
-- Source: docs/MODEL.md, "Clocks". After Mattern, Virtual Time and Global States of Distributed Systems, 1988, with one clock for each memory.
use Rattle.std.specs.Prelude.{◌≡◌, ◌⊎◌, ℕ, zero, suc, length}
use Rattle.gr_model.specs.Types.{Space, ItemId, EventId}
use Rattle.gr_model.specs.Streams.{Streams, trace_of}
use Rattle.gr_model.specs.HappensBefore.{HappensBefore}

-- n is the number of the places below a bound at which P holds
abbrev pub IsNumberOf : (ℕ → Type 0) → ℕ → ℕ → Type 0
IsNumberOf P zero n = n ≡ 0
IsNumberOf P (suc k) n = ((m : ℕ) × (n ≡ suc m) × P k × IsNumberOf P k m) ⊎ (¬ P k × IsNumberOf P k n)

-- e is f, or happens before it
abbrev pub Sees : Streams → Space → EventId → EventId → Type 0
Sees s m f e = (e ≡ f) ⊎ HappensBefore s m e f

-- n is the number of an item's events that are f or happen before it
abbrev pub IsCount : Streams → Space → EventId → ItemId → ℕ → Type 0
IsCount s m f j n = IsNumberOf (λ k. Sees s m f (record { at = j; index = k })) (length (trace_of s j)) n
