-- The sizes when no group has had a seat.
use Rattle.gr_model.proofs.Common.{◌≡◌, ℕ, get_or, length, replicate, arith, get_or-eq_default, get_or-replicate, length-replicate}
use Rattle.gr_model.specs.declared.limits.TheConstants.{MOST_GROUPS}
use Rattle.gr_route.specs.IntakeRule.{no_sizes}

-- each group has a place
pub each_has_place : length no_sizes ≡ MOST_GROUPS
unfolding no_sizes
each_has_place = length-replicate {A = ℕ} MOST_GROUPS 0

zeros : (n g : ℕ) → get_or {A = ℕ} (replicate n 0) g 0 ≡ 0
zeros n g = grind (arith, get_or-replicate {A = ℕ} n g 0 0, get_or-eq_default {A = ℕ} (replicate n 0) 0 {n = g}, length-replicate {A = ℕ} n 0)

-- no group has a size
pub none_has_size : (g : ℕ) → get_or no_sizes g 0 ≡ 0
unfolding no_sizes
none_has_size g = zeros MOST_GROUPS g
