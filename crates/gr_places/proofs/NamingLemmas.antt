-- Texts of the form NAME[INDEX], and the words of buffers that they name.
use Rattle.gr_model.proofs.Common.{◌≡◌, ℕ, ◌-◌, ◌^◌, ◌<◌, Bool, true, false, List, [], ◌∷◌, ◌++◌, Option, Some, None, refl, sym, ap, ◌∙◌, length, arith, map, MatchOption, decimal, find, is_some, nat_tests, eq-eqb, option_map, option_and_then_some, subst, drop_at, length-append, take-append-drop, take_at, IfSome, IsSomeAnd}
use Rattle.gr_text.proofs.LineNumbers.{each_some, number_back, number_told, same_self, same_told}
use Rattle.gr_places.specs.Types.{Word, BufferLine}
use Rattle.gr_places.specs.SideLines.{BufferSaid, ElementSaid, buffer_line, element_of, index_in}
use Rattle.gr_places.proofs.Reading.{element_found, made}
use Rattle.gr_places.specs.Naming.{IsSaid, IsText, after, before, in_brackets, index_after, number_of, word_at, word_in}

-- ---- options and lists

some_and : {X : Type 0} (o : Option X) (P : X → Type 0) → IsSomeAnd o P → (x : X) × (o ≡ Some x) × P x
some_and None P s = absurd s
some_and (Some x) P s = (x, refl, s)

from_map : {X Y : Type 0} (g : X → Y) (o : Option X) (y : Y) → option_map g o ≡ Some y → (x : X) × (o ≡ Some x) × (g x ≡ y)
from_map g None y e = absurd cc
from_map g (Some x) y e = (x, refl, cc)

-- what is found passes, and is found by another test that it passes
find_passes : {X : Type 0} (p : X → Bool) (xs : List X) (x : X) → find p xs ≡ Some x → p x ≡ true
find_passes p [] x e = absurd cc
find_passes p (y ∷ ys) x e = grind (arith, find_passes p ys x)

found_too : {X : Type 0} (p q : X → Bool) (xs : List X) (x : X) → find p xs ≡ Some x → q x ≡ true → is_some (find q xs) ≡ true
found_too p q [] x e t = absurd cc
found_too p q (y ∷ ys) x e t = grind (arith, found_too p q ys x)

-- ---- a name and an index

after_told : (p s : List ℕ) → (after p s ≡ after p s) × IfSome (after p s) (λ r. s ≡ p ++ r)
unfolding after
after_told p s = (refl, each_some (after p s) (λ r. s ≡ p ++ r) (λ r is. grind (arith, same_told, take-append-drop (length p) s)))

before_told : (p s : List ℕ) → (before p s ≡ before p s) × IfSome (before p s) (λ r. s ≡ r ++ p)
unfolding before
before_told p s = (refl, each_some (before p s) (λ r. s ≡ r ++ p) (λ r is. grind (arith, same_told, take-append-drop (length s - length p) s)))

index_found : (name text : List ℕ) (k : ℕ) → index_after name text ≡ Some k → IsText name k text
unfolding index_after
index_found name text k e = grind (arith, after_told, before_told, number_told)

index_back : (name : List ℕ) (k : ℕ) → k < 2 ^ 32 → index_after name (name ++ in_brackets k) ≡ Some k
unfolding index_after after before
index_back name k lt =
    let digits = decimal k in
    let n : length (digits ++ 93 ∷ []) - 1 ≡ length digits = omega (arith, length-append digits (93 ∷ [])) in
    rw (take_at name (in_brackets k) (length name) refl, drop_at name (in_brackets k) (length name) refl, same_self name, same_self (91 ∷ []), n, drop_at digits (93 ∷ []) (length digits) refl, take_at digits (93 ∷ []) (length digits) refl, same_self (93 ∷ []))
    (number_back k lt)

-- ---- a word and its place in a line

word_of_index : (b : BufferSaid) (w : Word) (k : ℕ) → index_in b w ≡ Some k → number_of w < 2 ^ 32 → (word_at b k ≡ Some w) × (k < 2 ^ 32)
word_of_index b w k e lt = (grind (arith, nat_tests), grind (arith, nat_tests))

small_word : (b : BufferSaid) (w : Word) (k : ℕ) → word_at b k ≡ Some w → number_of w < 2 ^ 32
small_word b w k e = grind (arith, nat_tests)

small_told : (b : BufferSaid) (k : ℕ) → (word_at b k ≡ word_at b k) × IfSome (word_at b k) (λ w. number_of w < 2 ^ 32)
small_told b k = (refl, each_some (word_at b k) (λ w. number_of w < 2 ^ 32) (λ w is. small_word b w k is))

index_told : (name text : List ℕ) → (index_after name text ≡ index_after name text) × IfSome (index_after name text) (λ k. IsText name k text)
index_told name text = (refl, each_some (index_after name text) (λ k. IsText name k text) (index_found name text))

module _ (lines : List BufferSaid) (b : BufferSaid) (text : List ℕ) (w : Word) where
  -- the word of a line is said
  word_found : word_in lines b text ≡ Some w → IsSaid lines text w
  unfolding word_in
  word_found e = record { said = grind (arith, index_told, same_told, nat_tests); small = grind (arith, small_told) }

  -- a word that is said is that of its line
  word_back : (k : ℕ) → index_in b w ≡ Some k → number_of w < 2 ^ 32 → element_of lines w ≡ Some (record { name = b.name; index = k }) → IsText b.name k text → word_in lines b text ≡ Some w
  unfolding word_in
  word_back k at small is t =
      let back = word_of_index b w k at small in
      rw (t, index_back b.name k back.1, back.0, is, eq-eqb k k refl, same_self b.name) refl

module _ (lines : List BufferLine) (text : List ℕ) where
  abbrev says : BufferLine → Bool
  says l = is_some (word_in (map buffer_line lines) (buffer_line l) text)

  abbrev has : Word → BufferLine → Bool
  has w l = is_some (index_in (buffer_line l) w)

  pub one_said : (line : BufferLine) → find says lines ≡ Some line → (r : Option Word) → r ≡ word_in (map buffer_line lines) (buffer_line line) text → MatchOption r ((w : Word) → ¬ IsSaid (map buffer_line lines) text w) (λ w. IsSaid (map buffer_line lines) text w)
  one_said line found None is = let bad : false ≡ true = ap (λ (o : Option Word). is_some o) is ∙ find_passes says lines line found in absurd cc
  one_said line found (Some w) is = word_found (map buffer_line lines) (buffer_line line) text w (sym is)

  pub none_said : find says lines ≡ None → (w : Word) → ¬ IsSaid (map buffer_line lines) text w
  none_said none w s =
      let t = some_and (element_of (map buffer_line lines) w) (λ e. IsText e.name e.index text) s.said in
      option_and_then_some (made w) (find (has w) lines) t.0 (element_found lines w (find (has w) lines) refl ∙ t.1) (λ b found is.
      let at = from_map (λ (k : ℕ). record { name = b.name.now; index = k }) (index_in (buffer_line b) w) t.0 is in
      let here : word_in (map buffer_line lines) (buffer_line b) text ≡ Some w =
      word_back (map buffer_line lines) (buffer_line b) text w at.0 at.1 s.small (t.1 ∙ ap (λ (e : ElementSaid). Some e) (sym at.2)) (subst (λ (e : ElementSaid). IsText e.name e.index text) (sym at.2) t.2) in
      let bad : false ≡ true = ap (λ (o : Option BufferLine). is_some o) (sym none) ∙ found_too (has w) says lines b found (ap (λ (o : Option Word). is_some o) here) in
      cc)
