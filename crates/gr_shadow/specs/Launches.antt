-- The list of accesses that the shadows of a launch represent. Those of a group's local words may have been given up.
-- Source: docs/MODEL.md, "Hits".
use Rattle.std.specs.Prelude.{◌≡◌, ℕ, ◌==◌, Bool, true, false, List, [], filter, slice_get, Option, Some, None}
use Rattle.gr_model.specs.declared.event.Word.{Word}
use Rattle.gr_model.specs.declared.event.Word.TheVariants.{Global, Local}
use Rattle.gr_shadow.specs.Clashes.{ClockedAccess, IsHitIn}
use Rattle.gr_shadow.specs.Kept.{Kept}
use Rattle.gr_shadow.specs.StandsFor.{StandsFor}

-- what is kept of global words, and of each group what is kept of its local words, or that it was given up
pub record LaunchKept : Type 0 where
  pub global : Kept
  pub local : List (Option Kept)

abbrev pub is_global : Word → Bool
is_global (Global v) = true
is_global (Local g v) = false

abbrev pub is_local_of : ℕ → Word → Bool
is_local_of group (Global v) = false
is_local_of group (Local g v) = g == group

-- the accesses to words of some kind
abbrev pub accesses_in : (Word → Bool) → List ClockedAccess → List ClockedAccess
accesses_in keep accesses = filter (λ x. keep x.word) accesses

-- of a group of which nothing is kept there was no access to a local word, and of one that was given up no such word is hit
abbrev pub StandsForLocal : List ClockedAccess → Option (Option Kept) → Type 0
StandsForLocal accesses None = accesses ≡ []
StandsForLocal accesses (Some None) = (w : Word) → ¬ IsHitIn accesses w
StandsForLocal accesses (Some (Some kept)) = StandsFor accesses kept

pub record StandsForLaunch (accesses : List ClockedAccess) (kept : LaunchKept) : Type 0 where
  pub global : StandsFor (accesses_in is_global accesses) kept.global
  pub local : (g : ℕ) → StandsForLocal (accesses_in (is_local_of g) accesses) (slice_get kept.local g)
