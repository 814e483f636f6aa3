-- The first place of a list that comes from another one.
use Rattle.gr_model.proofs.Common.{◌≡◌, Bool, List, [], ◌∷◌, map, refl, arith, position}

pub position_map : {X Y : Type 0} (test : Y → Bool) (f : X → Y) (xs : List X) → position test (map f xs) ≡ position (λ x. test (f x)) xs
position_map test f [] = refl
position_map test f (x ∷ xs) = grind (arith, position_map test f xs)
