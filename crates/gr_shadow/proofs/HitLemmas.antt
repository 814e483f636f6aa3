-- The hits of a list with one more access.
use Rattle.gr_model.proofs.Common.{◌⊎◌, ◌↔◌, List, [], ◌∷◌, ◌++◌, arith}
use Rattle.gr_model.specs.Prelude.{SomePair}
use Rattle.gr_model.proofs.Pairs.{SomeOf, PairIn, SomePair-from_in, PairIn-from_some}

SomeOf-push : {X : Type 0} (P : X → Type 0) (xs : List X) (y : X) → SomeOf P (xs ++ y ∷ []) ↔ (SomeOf P xs ⊎ P y)
SomeOf-push P [] y = grind arith
SomeOf-push P (x ∷ xs) y = grind (arith, SomeOf-push P xs y)

PairIn-push : {X : Type 0} (R : X → X → Type 0) (xs : List X) (y : X) → PairIn R (xs ++ y ∷ []) ↔ (PairIn R xs ⊎ SomeOf (λ x. R x y) xs)
PairIn-push R [] y = grind arith
PairIn-push R (x ∷ xs) y = grind (arith, PairIn-push R xs y, SomeOf-push (R x) xs y)

-- a pair of a list with one more element is one before it, or has that element after one of the list
pub SomePair-push : {X : Type 0} (R : X → X → Type 0) (xs : List X) (y : X) → SomePair R (xs ++ y ∷ []) ↔ (SomePair R xs ⊎ SomeOf (λ x. R x y) xs)
SomePair-push R xs y = grind (arith, PairIn-push R xs y, SomePair-from_in R, PairIn-from_some R)
