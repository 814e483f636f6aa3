-- What can be decided of numbers, words, marks and events, of all numbers below a bound, and of all elements of a list.
use Rattle.gr_model.proofs.Common.{◌≡◌, ◌⊎◌, ℕ, zero, suc, ◌<◌, List, [], ◌∷◌, Contains, Option, Some, refl, inl, inr, ⊎_elim, arith}
use Rattle.gr_steps.specs.Types.{EventId, Word}
use Rattle.gr_model.specs.Prelude.{IsIn}
use Rattle.gr_steps.proofs.Orders.{in_cases, in_either}

pub dec_map : {P Q : Type 0} → (P → Q) → (Q → P) → Dec P → Dec Q
dec_map to from h = grind arith

pub dec_both : {P Q : Type 0} → Dec P → Dec Q → Dec (P × Q)
dec_both h d = grind arith

pub dec_four : {P Q R S : Type 0} → Dec P → Dec Q → Dec R → Dec S → Dec (P × Q × R × S)
dec_four p q r s = grind arith

pub by_cases : {P G : Type 0} → Dec P → (P → G) → ((P → ⊥) → G) → G
by_cases h some none = grind arith

pub option_dec : {X : Type 0} → ((x y : X) → Dec (x ≡ y)) → (a b : Option X) → Dec (a ≡ b)
option_dec d (Some x) (Some y) = grind (arith, d x y)
option_dec d a b = grind arith

pub word_dec : (v w : Word) → Dec (v ≡ w)
word_dec v w = grind arith

-- an event is in a list or is not
pub in_dec : (xs : List EventId) (e : EventId) → Dec (IsIn xs e)
in_dec [] e = grind arith
in_dec (x ∷ xs) e = dec_map (in_either x xs e) (in_cases x xs e) (grind (arith, in_dec xs e))

-- P holds of all numbers below a bound, or there is a least one of which it does not
abbrev pub IsLeastWithout : (ℕ → Type 0) → ℕ → ℕ → Type 0
IsLeastWithout P bound i = (i < bound) × (P i → ⊥) × ((j : ℕ) → j < i → P j)

pub all_below : (P : ℕ → Type 0) (bound : ℕ) → ((i : ℕ) → i < bound → Dec (P i)) → ((i : ℕ) → i < bound → P i) ⊎ ((i : ℕ) × IsLeastWithout P bound i)
all_below P zero d = inl (λ i lt. absurd (omega arith))
all_below P (suc n) d = grind (arith, d n (omega arith), all_below P n (λ i lt. d i (omega arith)))

-- where P or Q holds of each element of a list, P holds of all or Q of some
pub all_or_some : {X : Type 0} (P Q : X → Type 0) (xs : List X) → ((x : X) → Contains xs x → P x ⊎ Q x) → ((x : X) → Contains xs x → P x) ⊎ ((x : X) × Contains xs x × Q x)
all_or_some P Q [] each = inl (λ x there. absurd (omega (arith, there.1)))
all_or_some P Q (y ∷ xs) each =
    let behind : (x : _) → Contains xs x → Contains (y ∷ xs) x = λ x there. (suc there.0, omega (arith, there.1), there.2) in
    ⊎_elim
    (λ (first : P y). ⊎_elim
    (λ rest. inl (λ x there. grind (arith, first, rest x, there)))
    (λ some. inr (some.0, behind some.0 some.1, some.2))
    (all_or_some P Q xs (λ x there. each x (behind x there))))
    (λ (first : Q y). inr (y, (0, omega arith, refl), first))
    (each y (0, omega arith, refl))

-- whether P holds of all elements of a list
pub all_dec : {X : Type 0} (P : X → Type 0) (xs : List X) → ((x : X) → Contains xs x → Dec (P x)) → Dec ((x : X) → Contains xs x → P x)
all_dec {X} P xs decide =
    grind (arith, all_or_some P (λ x. P x → ⊥) xs (λ x there. by_cases (decide x there) inl inr))
