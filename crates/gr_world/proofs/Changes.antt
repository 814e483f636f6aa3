-- What holds for each item of a list after one item changed, and of a list whose accesses are seen without allocators.
use Rattle.gr_model.proofs.Common.{◌≡◌, ◌≢◌, ℕ, ◌<◌, List, length, get_or, set, sym, subst, refl, [], ◌∷◌, ⊎_elim, get_or-set_other, get_or-set_same, cases_eq, length-map, map-append}
use Rattle.gr_clocks.specs.declared.access.Access.{Access}
use Rattle.gr_world.specs.Queues.{all_clocked}

pub where_set : {X : Type 0} (P : ℕ → X → Type 0) (xs : List X) (i : ℕ) (x d : X) → i < length xs → P i x → ((k : ℕ) → k ≢ i → P k (get_or xs k d)) → (k : ℕ) → P k (get_or (set xs i x) k d)
where_set P xs i x d there here others k = ⊎_elim
    (λ (same : k ≡ i). subst (λ n. P n (get_or (set xs i x) n d)) (sym same) (subst (P i) (sym (get_or-set_same xs i x d there)) here))
    (λ apart. subst (P k) (sym (get_or-set_other xs i k x d apart)) (others k apart))
    (cases_eq k i)

pub none_clocked : {Z : Type 0} (xs : List (Access Z)) → all_clocked xs ≡ [] → xs ≡ []
none_clocked [] none = refl
none_clocked (x ∷ xs) none = cc

pub ruleset mapped = (length-map, map-append)
