-- Lists with one more at their end or at their front, or with one changed, and mapped lists.
use Rattle.gr_model.proofs.Common.{◌≡◌, ◌⊎◌, Contains, ℕ, zero, suc, ◌<◌, List, [], ◌∷◌, ◌++◌, length, get_or, map, slice_set, Some, slice_get, Bool, true, inl, inr, ⊎_elim, arith, list_any, cases_eq, common_steps, get_or-map, get_or-set_other, Any-from_list_any, gets}

pub last_cases : {X : Type 0} (xs : List X) (x : X) (p : ℕ) (y : X) → slice_get (xs ++ x ∷ []) p ≡ Some y → ((p < length xs) × (slice_get xs p ≡ Some y)) ⊎ ((p ≡ length xs) × (y ≡ x))
last_cases xs x p y at = grind (arith, common_steps, gets)

pub at_last : {X : Type 0} (xs : List X) (x : X) → slice_get (xs ++ x ∷ []) (length xs) ≡ Some x
at_last xs x = grind (arith, common_steps, gets)

-- what a list with one more at its front has is that one, or in the rest
pub first_or_rest : {X : Type 0} (x : X) (xs : List X) (z : X) → Contains (x ∷ xs) z → (x ≡ z) ⊎ Contains xs z
first_or_rest x xs z (zero, lt, is) = inl is
first_or_rest x xs z (suc k, lt, is) = inr (k, omega (arith, lt), is)

pub set_has : {X : Type 0} (xs : List X) (p : ℕ) (x : X) → p < length xs → Contains (slice_set xs p x) x
set_has xs p x lt = (p, grind (arith, common_steps), grind (arith, common_steps))

pub set_was : {X : Type 0} (xs : List X) (p : ℕ) (x z : X) → Contains (slice_set xs p x) z → (x ≡ z) ⊎ Contains xs z
set_was xs p x z (k, lt, is) = grind (arith, common_steps)

pub set_still : {X : Type 0} (xs : List X) (p : ℕ) (x d z : X) → Contains xs z → (get_or xs p d ≡ z) ⊎ Contains (slice_set xs p x) z
set_still xs p x d z (k, lt, is) = ⊎_elim
    (λ (same : k ≡ p). inl (grind (arith, common_steps)))
    (λ other. inr (k, grind (arith, common_steps), grind (arith, common_steps, get_or-set_other)))
    (cases_eq k p)

pub mapped_there : {X Y : Type 0} (f : X → Y) (xs : List X) (x : X) → Contains xs x → Contains (map f xs) (f x)
mapped_there f xs x (k, lt, is) = (k, grind (arith, common_steps), grind (arith, common_steps, get_or-map))

pub any_there : {X : Type 0} (f : X → Bool) (xs : List X) → list_any f xs ≡ true → (x : X) × Contains xs x × (f x ≡ true)
any_there f xs h = let found = Any-from_list_any f xs h in (found.1, (found.0, found.2, found.3), found.4)
