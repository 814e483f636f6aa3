-- Two ascending lists without repeats are equal where they have the same elements.
use Rattle.gr_model.proofs.Common.{◌≡◌, ◌⊎◌, ℕ, suc, ◌<◌, List, [], ◌∷◌, length, slice_index_or, Contains, AllPairs, refl, sym, subst, arith}
use Rattle.gr_model.specs.Prelude.{Lists}

Contains-cases : {X : Type 0} (y : X) (ys : List X) (x : X) (k : ℕ) → k < length (y ∷ ys) → slice_index_or (y ∷ ys) k x ≡ x → (y ≡ x) ⊎ Contains ys x
Contains-cases y ys x k lt at = grind arith

module _ {X : Type 0} (Below : X → X → Type 0) (one_way : (x y : X) → Below x y → Below y x → ⊥) where
  rest_ascends : (x : X) (xs : List X) → AllPairs Below (x ∷ xs) → AllPairs Below xs
  rest_ascends x xs up i j d lt within = up (suc i) (suc j) d (omega arith) (omega arith)

  first_below : (x : X) (xs : List X) → AllPairs Below (x ∷ xs) → (y : X) → Contains xs y → Below x y
  first_below x xs up y h = subst (λ z. Below x z) h.2 (up 0 (suc h.0) y (omega arith) (omega (arith, h.1)))

  -- what comes after the first of one list comes after the first of the other
  in_rest : (x y : X) (xs ys : List X) → x ≡ y → AllPairs Below (x ∷ xs) → ((z : X) → Contains (x ∷ xs) z → Contains (y ∷ ys) z) → (z : X) → Contains xs z → Contains ys z
  in_rest x y xs ys same up to z h =
      grind (arith, to z (suc h.0, omega (arith, h.1), h.2), Contains-cases y ys z, first_below x xs up z h, one_way x x)

  same_lists : (xs ys : List X) → AllPairs Below xs → AllPairs Below ys → ((z : X) → Contains xs z → Contains ys z) → ((z : X) → Contains ys z → Contains xs z) → xs ≡ ys
  same_lists [] [] up_x up_y to from = refl
  same_lists [] (y ∷ ys) up_x up_y to from = grind (arith, from y (0, omega arith, refl))
  same_lists (x ∷ xs) [] up_x up_y to from = grind (arith, to x (0, omega arith, refl))
  same_lists (x ∷ xs) (y ∷ ys) up_x up_y to from =
      let in_other = to x (0, omega arith, refl) in
      let in_one = from y (0, omega arith, refl) in
      let same : x ≡ y = grind (arith, Contains-cases x xs y, Contains-cases y ys x, first_below x xs up_x y, first_below y ys up_y x, one_way) in
      let rest = same_lists xs ys (rest_ascends x xs up_x) (rest_ascends y ys up_y) (in_rest x y xs ys same up_x to) (in_rest y x ys xs (sym same) up_y from) in
      λ i. same i ∷ rest i

  pub one_list : (P : X → Type 0) (xs ys : List X) → Lists Below P xs → Lists Below P ys → xs ≡ ys
  one_list P xs ys a b = same_lists xs ys a.ascending b.ascending (λ z h. (b.exact z).1 ((a.exact z).0 h)) (λ z h. (a.exact z).1 ((b.exact z).0 h))
