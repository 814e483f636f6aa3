-- The groups whose streams were cut, found one after the other.
use Rattle.gr_model.proofs.Common.{◌≡◌, ◌⊎◌, ℕ, ◌+◌, ◌<◌, ◌≤◌, List, [], ◌∷◌, ◌++◌, length, subst, inl, inr, ⊎_elim, arith}
use Rattle.gr_model.specs.Prelude.{Lists, IsCut, Streams}
use Rattle.gr_barriers.proofs.Lists.{listed_push, listed_same}

abbrev pub Above : ℕ → ℕ → Type 0
Above g h = g < h

-- just the cut groups below a bound, ascending
abbrev pub CutBelow : Streams → ℕ → List ℕ → Type 0
CutBelow s bound groups = Lists Above (λ g. (g < bound) × IsCut s g) groups

module _ (s : Streams) where
  module _ (bound : ℕ) (groups : List ℕ) (below : CutBelow s bound groups) where
    earlier : (g : ℕ) → g < bound + 1 → (g < bound) ⊎ (g ≡ bound)
    earlier g lt = grind arith

    pub one_more_cut : IsCut s bound → CutBelow s (bound + 1) (groups ++ bound ∷ [])
    one_more_cut cut = listed_push Above (λ g. (g < bound) × IsCut s g) (λ g. (g < bound + 1) × IsCut s g) groups bound below (λ g h. h.0) (omega arith, cut)
        (λ g h. (omega (arith, h.0), h.1))
        (λ g h. ⊎_elim (λ less. inl (less, h.1)) (λ same. inr same) (earlier g h.0))

    pub no_more_cut : ¬ IsCut s bound → CutBelow s (bound + 1) groups
    no_more_cut whole = listed_same Above (λ g. (g < bound) × IsCut s g) (λ g. (g < bound + 1) × IsCut s g) groups below
        (λ g h. (omega (arith, h.0), h.1))
        (λ g h. ⊎_elim (λ less. (less, h.1)) (λ same. absurd (whole (subst (IsCut s) same h.1))) (earlier g h.0))

    pub all_cut : length s.sizes ≤ bound → Lists Above (IsCut s) groups
    all_cut all = listed_same Above (λ g. (g < bound) × IsCut s g) (IsCut s) groups below (λ g h. h.1) (λ g cut. (omega (arith, cut.0), cut))
