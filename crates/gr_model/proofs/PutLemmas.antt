-- Lists with an element at a place after their end.
use Rattle.gr_model.proofs.Common.{◌≡◌, ℕ, zero, suc, ◌+◌, ◌<◌, ◌≤◌, max, All, List, [], ◌∷◌, ◌++◌, length, get_or, map, set, sum, refl, sym, ap, ◌∙◌, arith, get_or_default, get_or_past, sum_by-cons, ◌≢◌}
use Rattle.gr_model.specs.Prelude.{put}

pub put_same : {X : Type 0} (none : X) (xs : List X) (p : ℕ) (x : X) → get_or (put none xs p x) p none ≡ x
put_same none [] (suc p) x = put_same none [] p x
put_same none (y ∷ ys) (suc p) x = put_same none ys p x
put_same none xs p x = refl

pub put_other : {X : Type 0} (none : X) (xs : List X) (p : ℕ) (x : X) (q : ℕ) → q ≢ p → get_or (put none xs p x) q none ≡ get_or xs q none
put_other none [] (suc p) x q apart = grind (arith, put_other none [] p x)
put_other none (y ∷ ys) (suc p) x q apart = grind (arith, put_other none ys p x)
put_other none xs p x q apart = grind arith

pub length_put : {X : Type 0} (none : X) (xs : List X) (p : ℕ) (x : X) → length (put none xs p x) ≡ max (length xs) (p + 1)
length_put none [] (suc p) x = omega (arith, length_put none [] p x)
length_put none (y ∷ ys) (suc p) x = omega (arith, length_put none ys p x)
length_put none xs p x = omega arith

-- within the list it is written
pub put_within : {X : Type 0} (none : X) (xs : List X) (p : ℕ) (x : X) → p < length xs → put none xs p x ≡ set xs p x
put_within none [] p x there = absurd (omega (arith, there))
put_within none (y ∷ ys) p x there = grind (arith, put_within none ys)

-- what is put between may be there before
pub put_behind : {X : Type 0} (none : X) (xs : List X) (p : ℕ) (x : X) → length xs ≤ p → put none (xs ++ none ∷ []) p x ≡ put none xs p x
put_behind none [] p x over = grind arith
put_behind none (y ∷ ys) p x over = grind (arith, put_behind none ys)

pub map_put : {X Y : Type 0} (f : X → Y) (none : X) (xs : List X) (p : ℕ) (x : X) → map f (put none xs p x) ≡ put (f none) (map f xs) p (f x)
map_put f none [] (suc p) x = ap (λ rest. f none ∷ rest) (map_put f none [] p x)
map_put f none (y ∷ ys) (suc p) x = ap (λ rest. f y ∷ rest) (map_put f none ys p x)
map_put f none xs p x = refl

-- ---- numbers

-- where nothing was there
pub sum_put : (ns : List ℕ) (p n : ℕ) → get_or ns p 0 ≡ 0 → sum (put 0 ns p n) ≡ sum ns + n
sum_put [] zero n none = grind (arith, sum_by-cons)
sum_put [] (suc p) n none = grind (arith, sum_by-cons, sum_put [] p n refl)
sum_put (m ∷ ns) zero n none = grind (arith, sum_by-cons (λ (k : ℕ). k) n ns, sum_by-cons)
sum_put (m ∷ ns) (suc p) n none =
    omega (arith, sum_put ns p n none, sum_by-cons (λ (k : ℕ). k) m (put 0 ns p n), sum_by-cons (λ (k : ℕ). k) m ns)

-- each is small where the others are
pub all_put : (P : ℕ → Type 0) (ns : List ℕ) (p n : ℕ) → P 0 → P n → All P ns → All P (put 0 ns p n)
all_put P ns p n nothing new all k d there =
    grind (arith, put_same 0 ns p n, put_other 0 ns p n k, get_or_default (put 0 ns p n) k d 0 there, all k 0, get_or_past ns k 0)

-- ---- lists that grow up to a place

pub puts_more : {X : Type 0} (none : X) (xs more : List X) (p : ℕ) (y : X) (old : List X) → ((x : X) → put none xs p x ≡ put none old p x) → length xs ≤ p → y ≡ none → more ≡ xs ++ y ∷ [] → (x : X) → put none more p x ≡ put none old p x
puts_more none xs more p y old so_far over is_none is x = ap (λ l. put none l p x) (is ∙ ap (λ z. xs ++ z ∷ []) is_none) ∙ put_behind none xs p x over ∙ so_far x

pub puts_last : {X : Type 0} (none : X) (xs : List X) (p : ℕ) (x : X) (old : List X) → ((y : X) → put none xs p y ≡ put none old p y) → p < length xs → set xs p x ≡ put none old p x
puts_last none xs p x old so_far there = sym (put_within none xs p x there) ∙ so_far x
