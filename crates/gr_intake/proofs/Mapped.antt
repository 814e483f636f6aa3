-- Lists that are mapped: what they have.
use Rattle.gr_model.proofs.Common.{◌≡◌, zero, suc, List, [], ◌∷◌, map, All, Contains, subst, refl, ap, ◌∙◌, arith, get_or-map, length-map}

module _ {X Y : Type 0} (f : X → Y) where
  pub mapped_there : (xs : List X) (x : X) → Contains xs x → Contains (map f xs) (f x)
  mapped_there xs x (k, lt, is) = (k, omega (arith, lt, length-map xs f), get_or-map f xs k x (f x) lt ∙ ap f is)

  pub mapped_from : (xs : List X) (y : Y) → Contains (map f xs) y → (x : X) × Contains xs x × (f x ≡ y)
  mapped_from [] y (k, lt, is) = absurd (omega (arith, lt))
  mapped_from (x ∷ xs) y (zero, lt, is) = (x, (0, omega arith, refl), is)
  mapped_from (x ∷ xs) y (suc k, lt, is) = let found = mapped_from xs y (k, omega (arith, lt), is) in (found.0, (suc found.1.0, omega (arith, found.1.1), found.1.2), found.2)

  pub all_from_map : (P : Y → Type 0) (xs : List X) → All P (map f xs) → All (λ x. P (f x)) xs
  all_from_map P xs all = λ k d lt. subst P (get_or-map f xs k d (f d) lt) (all k (f d) (omega (arith, lt, length-map xs f)))
