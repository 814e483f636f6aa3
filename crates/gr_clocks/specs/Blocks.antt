-- The counts of one work-group's items.
-- Source: docs/MODEL.md, "Clocks".
use Rattle.std.specs.Prelude.{◌≡◌, ◌≢◌, ℕ, ◌≤◌, max, slice_index, All, List}
use Rattle.gr_clocks.specs.declared.clock.TheConstants.{LARGEST_COUNT}

-- counts with a limit of their own
pub record IsBlock (counts : List ℕ) (most : ℕ) : Type 0 where
  pub below : All (λ n. n ≤ most) counts
  pub limit : most ≤ LARGEST_COUNT

-- no count is above theirs
abbrev pub IsRowWithin : List ℕ → List ℕ → Type 0
IsRowWithin mine theirs = (p : ℕ) → slice_index mine p ≤ slice_index theirs p

-- joined has the greater count at each place
pub record IsRowJoin (mine theirs joined : List ℕ) : Type 0 where
  pub counts : (p : ℕ) → slice_index joined p ≡ max (slice_index mine p) (slice_index theirs p)

-- a row with this count at one place, and the same at the others
pub record IsRowWith (mine : List ℕ) (place count : ℕ) (changed : List ℕ) : Type 0 where
  pub here : slice_index changed place ≡ count
  pub others : (p : ℕ) → p ≢ place → slice_index changed p ≡ slice_index mine p
