-- A number's text says that number, and no other word says one.
use Rattle.gr_model.proofs.Common.{◌≡◌, ℕ, ◌^◌, ◌<◌, true, List, Option, Some, None, refl, sym, arith, decimal, IfSome, lt-ltb, nat_tests}
use Rattle.std.specs.Cmp.Lexicographic.{same_text}
use Rattle.std.proofs.lemmas.Cmp.{nat_list_eq_equiv}
use Rattle.std.proofs.lemmas.Fmt.{decimal_is_IsNumeral}
use Rattle.gr_text.specs.Prelude.{same, number_of}

pub same_is : (a b : List ℕ) → same a b ≡ true → a ≡ b
unfolding same
same_is a b e = same_text a b (sym e)

-- the same in a form that `grind` finds, which shows the call first
pub same_told : (a b : List ℕ) → (same a b ≡ same a b) × (same a b ≡ true → a ≡ b)
same_told a b = (refl, same_is a b)

pub same_self : (a : List ℕ) → same a a ≡ true
unfolding same
same_self a = nat_list_eq_equiv.refl a

pub number_back : (n : ℕ) → n < 2 ^ 32 → number_of (decimal n) ≡ Some n
unfolding number_of
number_back n lt = let d = decimal_is_IsNumeral n (omega arith) in rw (d.1, lt-ltb n (2 ^ 32) lt, same_self (decimal n)) refl

pub number_found : (word : List ℕ) (n : ℕ) → number_of word ≡ Some n → (word ≡ decimal n) × (n < 2 ^ 32)
unfolding number_of
number_found word n e = grind (arith, nat_tests, same_told)

pub each_some : {X : Type 0} (o : Option X) (P : X → Type 0) → ((x : X) → o ≡ Some x → P x) → IfSome o P
each_some None P h = tt
each_some (Some x) P h = h x refl

pub number_told : (word : List ℕ) → (number_of word ≡ number_of word) × IfSome (number_of word) (λ n. (word ≡ decimal n) × (n < 2 ^ 32))
number_told word = (refl, each_some (number_of word) _ (number_found word))

-- what is neither the text of the number that was parsed, nor of any other, says none
pub number_none : (word : List ℕ) → ((n : ℕ) → n < 2 ^ 32 → word ≡ decimal n → ⊥) → number_of word ≡ None
number_none word none = let told = number_told word in grind (arith, none)
