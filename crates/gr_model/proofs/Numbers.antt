-- Counts of places at which a fact holds.
use Rattle.gr_model.proofs.Common.{◌≡◌, ◌↔◌, ℕ, zero, suc, ◌<◌, ◌≤◌, inl, inr, ⊎_elim, arith, eq-or-lt_of_le}
use Rattle.gr_model.specs.Prelude.{IsNumberOf}

-- a fact that holds of just the first n places holds n times
pub number_of_prefix : (P : ℕ → Type 0) (bound n : ℕ) → n ≤ bound → ((k : ℕ) → k < bound → P k ↔ (k < n)) → IsNumberOf P bound n
number_of_prefix P zero n within prefix = omega arith
number_of_prefix P (suc b) n within prefix =
    ⊎_elim
    (λ (same : n ≡ suc b). inl (b, same, (prefix b (omega arith)).1 (omega arith), number_of_prefix P b b (omega arith) (λ k below. grind (arith, prefix k))))
    (λ (lt : n < suc b). inr (λ p. grind (arith, prefix b), number_of_prefix P b n (omega arith) (λ k below. prefix k (omega arith))))
    (eq-or-lt_of_le within)
