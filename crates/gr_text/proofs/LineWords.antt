-- Words of a line: what comes before the first byte of a kind, and numbers and keywords.
use Rattle.gr_model.proofs.Common.{◌≡◌, ℕ, zero, suc, ◌+◌, List, [], ◌∷◌, ◌++◌, take, drop, Option, Some, None, refl, ap, arith, ◌%◌, ◌^◌, ◌<◌, Bool, true, false, ◌∙◌, ◌==◌, nat_lt, nat_le, ◌&&◌, not, decimal, append-nil, list_all, eq-eqb, ne_eqb, lt-ltb, le-leb, and_from, both_ways, nat_tests, list_all-append, AllPass-from_list_all, list_all-from_AllPass}
use Rattle.gr_text.specs.Prelude.{IsWithout, IsFirst, behind_mark, cut_at, same, short_of, IsWord, first_of, order_said, Order, order_word}
use Rattle.std.proofs.lemmas.Fmt.{decimal_by_steps}
use Rattle.gr_text.proofs.LineNumbers.{same_told, number_back}

module _ (mark : ℕ) where
  pub first_cut : (at : ℕ) (bytes : List ℕ) → IsFirst mark bytes at → cut_at mark bytes ≡ (take at bytes, Some (drop (at + 1) bytes))
  unfolding cut_at
  first_cut zero (b ∷ bytes) f = rw (eq-eqb b mark f.mark_there) refl
  first_cut (suc at) (b ∷ bytes) f =
      let ih = first_cut at bytes (record { there = omega (arith, f.there); before = λ k lt. f.before (suc k) (omega arith); mark_there = f.mark_there }) in
      let k : suc at + 1 ≡ suc (at + 1) = omega arith in
      rw (ne_eqb b mark (f.before 0 (omega arith)), ih, k) refl
  first_cut at [] f = absurd (omega (arith, f.there))

  -- what comes before, and what comes after
  pub first_back : (word : List ℕ) (rest : Option (List ℕ)) → IsWithout mark word → cut_at mark (word ++ behind_mark mark rest) ≡ (word, rest)
  unfolding cut_at
  first_back [] None word = refl
  first_back [] (Some rest) word = rw (eq-eqb mark mark refl) refl
  first_back (b ∷ bytes) rest word =
      let ih = first_back bytes rest (λ k d lt. word (suc k) d (omega arith)) in
      rw (ne_eqb b mark (word 0 0 (omega arith)), ih) refl

  pub first_whole : (bytes : List ℕ) → IsWithout mark bytes → cut_at mark bytes ≡ (bytes, None)
  first_whole bytes word = rw append-nil at (first_back bytes None word)

  pub first_found : (bytes : List ℕ) → bytes ≡ (cut_at mark bytes).0 ++ behind_mark mark (cut_at mark bytes).1
  unfolding cut_at
  first_found [] = refl
  first_found (b ∷ bytes) = let ih = first_found bytes in grind (arith, nat_tests)

  -- the same in a form that `grind` finds
  pub cut_told : (bytes : List ℕ) → (cut_at mark bytes ≡ cut_at mark bytes) × (bytes ≡ (cut_at mark bytes).0 ++ behind_mark mark (cut_at mark bytes).1)
  cut_told bytes = (refl, first_found bytes)

-- ---- bytes of one kind

-- each byte passes this test
abbrev pub are : (ℕ → Bool) → List ℕ → Bool
are p bytes = list_all p bytes

pub are-append : (p : ℕ → Bool) (a b : List ℕ) → are p a ≡ true → are p b ≡ true → are p (a ++ b) ≡ true
are-append p a b h k = list_all-append p a b ∙ and_from _ _ h k

pub are_weaker : (p q : ℕ → Bool) → ((b : ℕ) → p b ≡ true → q b ≡ true) → (bytes : List ℕ) → are p bytes ≡ true → are q bytes ≡ true
are_weaker p q weaker bytes h = list_all-from_AllPass q bytes (λ k d lt. weaker _ (AllPass-from_list_all p bytes h k d lt))

pub are_without : (p : ℕ → Bool) (mark : ℕ) → p mark ≡ false → (bytes : List ℕ) → are p bytes ≡ true → IsWithout mark bytes
are_without p mark isnt bytes h k d lt = λ e. both_ways _ (ap p e ∙ isnt) (AllPass-from_list_all p bytes h k d lt)

abbrev pub is_digit : ℕ → Bool
is_digit b = nat_le 48 b && nat_lt b 58

digit : (d : ℕ) → d < 10 → are is_digit ((48 + d) ∷ []) ≡ true
digit d lt = and_from _ _ (and_from _ _ (le-leb 48 (48 + d) (omega arith)) (lt-ltb (48 + d) 58 (omega arith))) refl

pub decimal_digits : (n : ℕ) → n < 2 ^ 32 → are is_digit (decimal n) ≡ true
decimal_digits n lt = decimal_by_steps (λ _ ds. are is_digit ds ≡ true) digit (λ m ds big h. are-append is_digit ds ((48 + m % 10) ∷ []) h (digit (m % 10) (omega arith))) n (omega arith)

-- a number is no keyword
pub no_key : (n : ℕ) (key : List ℕ) → n < 2 ^ 32 → are is_digit key ≡ false → same (decimal n) key ≡ false
no_key n key lt other = let digits = decimal_digits n lt in grind (arith, same_told)

-- ---- keywords

pub key_word : (key : List ℕ) → are (λ b. not (b == 32)) key ≡ true → IsWord key
key_word key h = are_without (λ b. not (b == 32)) 32 refl key h

pub decimal_word : (n : ℕ) → n < 2 ^ 32 → IsWord (decimal n)
decimal_word n lt = are_without is_digit 32 refl (decimal n) (decimal_digits n lt)

-- ---- words that are read again

pub order_again : (o : Order) → IsWord (order_word o) × (order_said (order_word o) ≡ Some o)
unfolding order_said same
order_again o = (key_word (order_word o) (grind arith), grind arith)

pub short_again : (n : ℕ) → n < 65536 → short_of (decimal n) ≡ Some n
unfolding short_of
short_again n lt = rw (number_back n (omega arith), lt-ltb n 65536 lt) refl

-- ---- the first word of several

pub first_of_space : (word rest : List ℕ) → IsWord word → first_of (word ++ 32 ∷ rest) ≡ (word, Some rest)
first_of_space word rest is = first_back 32 word (Some rest) is

pub first_of_last : (word : List ℕ) → IsWord word → first_of (word ++ []) ≡ (word, None)
first_of_last word is = first_back 32 word None is
