-- An element of which something holds, and a pair of elements, an earlier and a later one, that are related.
use Rattle.gr_model.proofs.Common.{◌≡◌, ◌⊎◌, ◌↔◌, ℕ, suc, Bool, true, List, [], ◌∷◌, Some, slice_get, filter, refl, inl, inr, arith}
use Rattle.gr_model.specs.Prelude.{SomePair}

-- P holds of an element
abbrev pub SomeOf : {X : Type 0} → (X → Type 0) → List X → Type 0
SomeOf P [] = ⊥
SomeOf P (x ∷ xs) = P x ⊎ SomeOf P xs

pub SomeOf-at : {X : Type 0} (P : X → Type 0) (xs : List X) (p : ℕ) (x : X) → slice_get xs p ≡ Some x → P x → SomeOf P xs
SomeOf-at P (y ∷ xs) (suc p) x at h = inr (SomeOf-at P xs p x at h)
SomeOf-at P xs p x at h = grind arith

pub SomeOf-place : {X : Type 0} (P : X → Type 0) (xs : List X) → SomeOf P xs → (p : ℕ) × (x : X) × (slice_get xs p ≡ Some x) × P x
SomeOf-place P [] h = absurd h
SomeOf-place P (y ∷ xs) (inl h) = (0, y, refl, h)
SomeOf-place P (y ∷ xs) (inr h) = let there = SomeOf-place P xs h in (suc there.0, there.1, there.2, there.3)

-- R relates an element and a later one, by recursion on the list
abbrev pub PairIn : {X : Type 0} → (X → X → Type 0) → List X → Type 0
PairIn R [] = ⊥
PairIn R (x ∷ xs) = SomeOf (R x) xs ⊎ PairIn R xs

pub SomePair-from_in : {X : Type 0} (R : X → X → Type 0) (xs : List X) → PairIn R xs → SomePair R xs
SomePair-from_in R [] h = absurd h
SomePair-from_in R (z ∷ xs) (inl h) = let there = SomeOf-place (R z) xs h in (0, suc there.0, z, there.1, omega arith, refl, there.2, there.3)
SomePair-from_in R (z ∷ xs) (inr h) = let there = SomePair-from_in R xs h in (suc there.0, suc there.1, there.2, there.3, omega (arith, there.4), there.5, there.6, there.7)

pub PairIn-from_some : {X : Type 0} (R : X → X → Type 0) (xs : List X) → SomePair R xs → PairIn R xs
PairIn-from_some R (z ∷ xs) (suc p, suc q, x, y, lt, at_x, at_y, r) = inr (PairIn-from_some R xs (p, q, x, y, omega (arith, lt), at_x, at_y, r))
PairIn-from_some R xs (p, q, x, y, lt, at_x, at_y, r) = grind (arith, SomeOf-at (R x))

-- a filter keeps an element of which P holds, where it keeps all such elements
pub SomeOf-filter : {X : Type 0} (keep : X → Bool) (P : X → Type 0) → ((x : X) → P x → keep x ≡ true) → (xs : List X) → SomeOf P xs ↔ SomeOf P (filter keep xs)
SomeOf-filter keep P kept [] = (λ h. h, λ h. h)
SomeOf-filter {X} keep P kept (x ∷ xs) = grind (arith, SomeOf-filter keep P kept xs)

pub PairIn-filter : {X : Type 0} (keep : X → Bool) (R : X → X → Type 0) → ((x y : X) → R x y → (keep x ≡ true) × (keep y ≡ true)) → (xs : List X) → PairIn R xs ↔ PairIn R (filter keep xs)
PairIn-filter keep R kept [] = (λ h. h, λ h. h)
PairIn-filter keep R kept (x ∷ xs) = grind (arith, PairIn-filter keep R kept xs, SomeOf-filter keep (R x) (λ y r. (kept x y r).1) xs, SomeOf-place (R x) xs, kept x)

pub SomePair-filter : {X : Type 0} (keep : X → Bool) (R : X → X → Type 0) → ((x y : X) → R x y → (keep x ≡ true) × (keep y ≡ true)) → (xs : List X) → SomePair R xs ↔ SomePair R (filter keep xs)
SomePair-filter keep R kept xs = grind (arith, PairIn-filter keep R kept xs, SomePair-from_in R, PairIn-from_some R)
