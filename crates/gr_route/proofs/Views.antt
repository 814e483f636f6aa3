-- What holds of each seat's view, after one view changes or one is added.
use Rattle.gr_model.proofs.Common.{arith, ◌≡◌, ◌≢◌, ℕ, zero, suc, false, true, true≢false, List, [], ◌∷◌, ◌++◌, length, set, sym, refl, subst}
use mathlib.Core.Option.{some, some-injective, some-ne-none}
use lib.ListN.{get_elem?}
use Rattle.crossbeam_queue.proofs.Lists.{at_set}

module _ {V : Type 0} where
  abbrev pub Each : (ℕ → V → Type 0) → List V → Type 0
  Each F views = (pass : ℕ) (v : V) → get_elem? views pass ≡ some v → F pass v

  pub each_set : (F : ℕ → V → Type 0) (views : List V) (pass : ℕ) (w : V) → F pass w → ((j : ℕ) (u : V) → j ≢ pass → get_elem? views j ≡ some u → F j u) → Each F (set views pass w)
  each_set F views pass w mine others j u at = grind (arith, others j u, at_set views pass j w u)

  -- one view takes in another
  pub each_merged : (F : ℕ → V → Type 0) (views : List V) (pass other : ℕ) (both spent : V) → F pass both → F other spent → ((j : ℕ) (u : V) → j ≢ pass → j ≢ other → get_elem? views j ≡ some u → F j u)
      → Each F (set (set views pass both) other spent)
  each_merged F views pass other both spent mine gone others j u at = grind (arith, others j u, at_set (set views pass both) other j spent u, at_set views pass j both u)

  pub each_one : (F : ℕ → V → Type 0) (w : V) → F 0 w → Each F (w ∷ [])
  each_one F w f zero u at = subst (λ y. F 0 y) (some-injective w u at) f
  each_one F w f (suc j) u at = absurd (some-ne-none u (sym at))

  pub each_snoc : (F : ℕ → V → Type 0) (views : List V) (w : V) → Each F views → F (length views) w → Each F (views ++ w ∷ [])
  each_snoc F [] w old new j u at = each_one F w new j u at
  each_snoc F (x ∷ xs) w old new zero u at = old zero u at
  each_snoc F (x ∷ xs) w old new (suc j) u at = each_snoc (λ k. F (suc k)) xs w (λ k. old (suc k)) new j u at

-- a view that was replaced, and the others
pub set_there : {V : Type 0} (views : List V) (pass : ℕ) (v w : V) → get_elem? views pass ≡ some v → get_elem? (set views pass w) pass ≡ some w
set_there [] pass v w at = absurd (some-ne-none v (sym at))
set_there (x ∷ xs) zero v w at = refl
set_there (x ∷ xs) (suc pass) v w at = set_there xs pass v w at

pub there_before : {V : Type 0} (views : List V) (pass other : ℕ) (v w : V) → other ≢ pass → get_elem? (set views pass v) other ≡ some w → get_elem? views other ≡ some w
there_before views pass other v w apart at = grind (arith, at_set views pass other v w at)

pub none_holds : {A : Type 0} → false ≡ true → A
none_holds e = absurd (true≢false (sym e))
