-- Lists in the making, and what one value more leaves of them.
use Rattle.gr_model.proofs.Common.{ℕ, ◌≤◌, ◌-◌, length, inl, inr, refl, ◌≡◌, ◌⊎◌, ◌<◌, List, [], ◌∷◌, ◌++◌, get_or, arith, Contains-append_cases, Contains-append_left, Contains-append_right, Contains-get_or, Contains-push, Contains-push_cases, cases_lt, get_or-append_right, get_or_append_left, length-append}
use Rattle.std.proofs.lemmas.List.Quantifiers.{all_pairs_push}
use Rattle.gr_model.specs.Prelude.{Lists}

pub none_listed : {X : Type 0} (Below : X → X → Type 0) (P : X → Type 0) → ((x : X) → P x → ⊥) → Lists Below P []
none_listed Below P none = record {
  ascending = λ i j d lt within. absurd (omega arith);
  exact = λ x. (λ h. absurd (let over : h.0 < 0 = h.1 in omega arith), λ p. absurd (none x p));
}

-- the same values by another fact of them
pub listed_same : {X : Type 0} (Below : X → X → Type 0) (P Q : X → Type 0) (xs : List X) → Lists Below P xs → ((x : X) → P x → Q x) → ((x : X) → Q x → P x) → Lists Below Q xs
listed_same Below P Q xs lists to from = record {
  ascending = lists.ascending;
  exact = λ x. (λ in_xs. to x ((lists.exact x).0 in_xs), λ q. (lists.exact x).1 (from x q));
}

-- one value more, above all others
pub listed_push : {X : Type 0} (Below : X → X → Type 0) (P Q : X → Type 0) (xs : List X) (new : X) → Lists Below P xs → ((x : X) → P x → Below x new) → Q new → ((x : X) → P x → Q x) → ((x : X) → Q x → P x ⊎ (x ≡ new)) → Lists Below Q (xs ++ new ∷ [])
listed_push {X} Below P Q xs new lists below this to from = record {
  ascending = all_pairs_push Below xs new lists.ascending (λ n d within. below (get_or xs n d) ((lists.exact (get_or xs n d)).0 (Contains-get_or xs n d within)));
  exact = λ x. (
    λ in_more. grind (arith, lists.exact x, to x, Contains-push_cases xs new x in_more),
    λ q. grind (arith, lists.exact x, from x q, Contains-append_left xs (new ∷ []), Contains-push xs new),
  );
}

-- the values of two lists, those of the first below those of the second
pub listed_append : {X : Type 0} (Below : X → X → Type 0) (P Q R : X → Type 0) (xs ys : List X) → Lists Below P xs → Lists Below Q ys → ((x y : X) → P x → Q y → Below x y) → ((x : X) → P x → R x) → ((x : X) → Q x → R x) → ((x : X) → R x → P x ⊎ Q x) → Lists Below R (xs ++ ys)
listed_append {X} Below P Q R xs ys first second across to too from = record {
  ascending = λ i j d lt within. by_case i j d lt within (cases_lt j (length xs)) (cases_lt i (length xs));
  exact = λ x. (
    λ in_both. grind (arith, first.exact x, second.exact x, to x, too x, Contains-append_cases xs ys x in_both),
    λ is. grind (arith, first.exact x, second.exact x, from x is, Contains-append_left xs ys x, Contains-append_right xs ys x),
  );
}
  where
    by_case : (i j : ℕ) (d : X) → i < j → j < length (xs ++ ys) → (j < length xs) ⊎ (length xs ≤ j) → (i < length xs) ⊎ (length xs ≤ i) → Below (get_or (xs ++ ys) i d) (get_or (xs ++ ys) j d)
    by_case i j d lt within (inl left) either = rw (get_or_append_left xs ys d j left, get_or_append_left xs ys d i (omega (arith, lt, left))) (first.ascending i j d lt left)
    by_case i j d lt within (inr right) (inl left) =
        let there : j - length xs < length ys = omega (arith, within, length-append xs ys, right) in
        rw (get_or-append_right xs ys (length xs) j d refl right, get_or_append_left xs ys d i left)
        (across (get_or xs i d) (get_or ys (j - length xs) d) ((first.exact (get_or xs i d)).0 (Contains-get_or xs i d left)) ((second.exact (get_or ys (j - length xs) d)).0 (Contains-get_or ys (j - length xs) d there)))
    by_case i j d lt within (inr right) (inr right_too) =
        rw (get_or-append_right xs ys (length xs) j d refl right, get_or-append_right xs ys (length xs) i d refl right_too)
        (second.ascending (i - length xs) (j - length xs) d (omega (arith, lt, right_too)) (omega (arith, within, length-append xs ys, right)))
