-- Sums over the items of a shape, and over the lists of groups.
use Rattle.gr_model.proofs.Common.{◌≡◌, ℕ, zero, suc, ◌+◌, ◌-◌, ◌<◌, ◌≤◌, List, [], ◌∷◌, length, map, get_or, refl, sym, ap, ◌∙◌, arith, common_steps, range_with_len, sum_by, cases_eq, fill_by_all, sum_by-append, sum_by-cons, get_or_past}
use Rattle.std.specs.List.{flat_map}
use Rattle.std.proofs.lemmas.List.Concat.{flat_map-cons}
use Rattle.gr_model.specs.declared.event.ItemId.{ItemId}
use Rattle.gr_model.specs.Prelude.{put, HasItem, items_of}
use Rattle.gr_model.proofs.PutLemmas.{length_put, put_other}
use Rattle.gr_clocks.specs.Tables.{item_of}

-- the sum of n numbers, from the one at a on
abbrev pub total : (ℕ → ℕ) → ℕ → ℕ → ℕ
total f a zero = 0
total f a (suc n) = f a + total f (a + 1) n

-- ---- lists

sum_range : (h : ℕ → ℕ) (a n : ℕ) → sum_by h (range_with_len a n) ≡ total h a n
sum_range h a zero = refl
sum_range h a (suc n) = sum_by-cons h a (range_with_len (a + 1) n) ∙ ap (λ (t : ℕ). h a + t) (sum_range h (a + 1) n)

sum_map : {X : Type 0} (h : X → ℕ) (f : ℕ → X) (a n : ℕ) → sum_by h (map f (range_with_len a n)) ≡ total (λ k. h (f k)) a n
sum_map h f a zero = refl
sum_map h f a (suc n) = sum_by-cons h (f a) (map f (range_with_len (a + 1) n)) ∙ ap (λ (t : ℕ). h (f a) + t) (sum_map h f (a + 1) n)

sum_flat : {X Y : Type 0} (h : Y → ℕ) (f : X → List Y) (xs : List X) → sum_by h (flat_map f xs) ≡ sum_by (λ x. sum_by h (f x)) xs
sum_flat h f [] = refl
sum_flat {X} {Y} h f (x ∷ xs) = grind (arith, flat_map-cons f x xs, sum_by-append h (f x) (flat_map f xs), sum_flat h f xs, sum_by-cons (λ (y : X). sum_by h (f y)) x xs)

-- a sum over a list is one over its places
pub sum_places : {X : Type 0} (h : X → ℕ) (xs : List X) (d : X) → sum_by h xs ≡ total (λ k. h (get_or xs k d)) 0 (length xs)
sum_places {X} h xs d = ap (λ (l : List X). sum_by h l) (fill_by_all (λ k. get_or xs k d) xs (length xs) d refl (λ k lt. refl)) ∙ sum_map h (λ k. get_or xs k d) 0 (length xs)

-- ---- totals

pub total_same : (f h : ℕ → ℕ) (a n : ℕ) → ((k : ℕ) → a ≤ k → k < a + n → h k ≡ f k) → total h a n ≡ total f a n
total_same f h a zero same = refl
total_same f h a (suc n) same = omega (arith, same a, total_same f h (a + 1) n (λ k ge lt. same k (omega arith) (omega arith)))

-- one of the numbers is greater by c
pub total_more : (f h : ℕ → ℕ) (m c a n : ℕ) → h m ≡ f m + c → ((k : ℕ) → (k ≡ m → ⊥) → h k ≡ f k) → a ≤ m → m < a + n → total h a n ≡ total f a n + c
total_more f h m c a zero more same ge lt = absurd (omega arith)
total_more f h m c a (suc n) more same ge lt = grind (arith, cases_eq a m, same a, total_same f h (a + 1) n, total_more f h m c (a + 1) n more same)

-- each of them is greater by one
pub total_each : (f h : ℕ → ℕ) (a n : ℕ) → ((k : ℕ) → a ≤ k → k < a + n → h k ≡ f k + 1) → total h a n ≡ total f a n + n
total_each f h a zero more = omega arith
total_each f h a (suc n) more = omega (arith, more a, total_each f h (a + 1) n (λ k ge lt. more k (omega arith) (omega arith)))

-- ---- the items of a shape

-- the sum over the items of a group
abbrev pub group_sum : (ItemId → ℕ) → List ℕ → ℕ → ℕ
group_sum h sizes g = total (λ k. h (item_of g k)) 0 (get_or sizes g 0)

pub items_sum : (h : ItemId → ℕ) (sizes : List ℕ) → sum_by h (items_of sizes) ≡ total (group_sum h sizes) 0 (length sizes)
items_sum h sizes = grind (arith, common_steps, sum_flat, sum_range, total_same, sum_map)

module _ (f h : ItemId → ℕ) (sizes : List ℕ) where
  pub items_same : ((i : ItemId) → HasItem sizes i → h i ≡ f i) → sum_by h (items_of sizes) ≡ sum_by f (items_of sizes)
  items_same same = grind (arith, common_steps, items_sum, total_same)

  -- the items of one group count more
  more_in : (g c : ℕ) → g < length sizes → group_sum h sizes g ≡ group_sum f sizes g + c → ((j : ItemId) → (j.group ≡ g → ⊥) → h j ≡ f j) → sum_by h (items_of sizes) ≡ sum_by f (items_of sizes) + c
  more_in g c there more same = grind (arith, items_sum f sizes, items_sum h sizes, total_more (group_sum f sizes) (group_sum h sizes) g c 0 (length sizes) more (λ k apart. total_same (λ n. f (item_of k n)) (λ n. h (item_of k n)) 0 (get_or sizes k 0) (λ n from lt. same (item_of k n) apart)))

  -- each by one
  pub group_more : (g : ℕ) → g < length sizes → ((k : ℕ) → k < get_or sizes g 0 → h (item_of g k) ≡ f (item_of g k) + 1) → ((j : ItemId) → (j.group ≡ g → ⊥) → h j ≡ f j) → sum_by h (items_of sizes) ≡ sum_by f (items_of sizes) + get_or sizes g 0
  group_more g there more same = more_in g (get_or sizes g 0) there (total_each (λ k. f (item_of g k)) (λ k. h (item_of g k)) 0 (get_or sizes g 0) (λ k from lt. more k (omega arith))) same

  -- or one item
  pub item_more : (i : ItemId) → HasItem sizes i → h i ≡ f i + 1 → ((j : ItemId) → (i ≡ j → ⊥) → h j ≡ f j) → sum_by h (items_of sizes) ≡ sum_by f (items_of sizes) + 1
  item_more i there more same =
      more_in i.group 1 there.0
      (total_more (λ k. f (item_of i.group k)) (λ k. h (item_of i.group k)) i.item 1 0 (get_or sizes i.group 0) more (λ k apart. same (item_of i.group k) (λ is. apart (ap (λ (j : ItemId). j.item) (sym is)))) (omega arith) (omega (arith, there.1)))
      (λ j apart. same j (λ is. apart (ap (λ (x : ItemId). x.group) (sym is))))

-- ---- sums of sums

pub sum_add : {X : Type 0} (f h : X → ℕ) (xs : List X) → sum_by (λ x. f x + h x) xs ≡ sum_by f xs + sum_by h xs
sum_add f h [] = refl
sum_add f h (x ∷ xs) = omega (arith, sum_add f h xs, sum_by-cons (λ y. f y + h y) x xs, sum_by-cons f x xs, sum_by-cons h x xs)

-- what is at most so much at each item is in all at most so much
pub items_at_most : (f h : ItemId → ℕ) (sizes : List ℕ) → ((i : ItemId) → HasItem sizes i → f i ≤ h i) → sum_by (λ i. h i - f i) (items_of sizes) + sum_by f (items_of sizes) ≡ sum_by h (items_of sizes)
items_at_most f h sizes most =
    sym (sum_add (λ i. h i - f i) f (items_of sizes))
    ∙ items_same h (λ i. (h i - f i) + f i) sizes (λ i there. let le = most i there in omega arith)

-- ---- a group comes

pub total_none : (f : ℕ → ℕ) (a n : ℕ) → ((k : ℕ) → a ≤ k → k < a + n → f k ≡ 0) → total f a n ≡ 0
total_none f a zero none = refl
total_none f a (suc n) none = omega (arith, none a, total_none f (a + 1) n (λ k ge lt. none k (omega arith) (omega arith)))

-- more numbers, all of them 0
total_longer : (f : ℕ → ℕ) (a n m : ℕ) → n ≤ m → ((k : ℕ) → a + n ≤ k → f k ≡ 0) → total f a m ≡ total f a n
total_longer f a zero m longer none = total_none f a m (λ k ge lt. none k (omega arith))
total_longer f a (suc n) zero longer none = absurd (omega arith)
total_longer f a (suc n) (suc m) longer none = let rest = total_longer f (a + 1) n m (omega arith) (λ k ge. none k (omega arith)) in omega arith

-- the sum over the items stays where a group of items comes that count for nothing
pub items_put : (h : ItemId → ℕ) (sizes : List ℕ) (g n : ℕ) → get_or sizes g 0 ≡ 0 → ((k : ℕ) → h (item_of g k) ≡ 0) → sum_by h (items_of (put 0 sizes g n)) ≡ sum_by h (items_of sizes)
items_put h sizes g n absent none =
    items_sum h (put 0 sizes g n)
    ∙ (total_same (group_sum h sizes) (group_sum h (put 0 sizes g n)) 0 (length (put 0 sizes g n)) (λ k ge lt. same k)
    ∙ (total_longer (group_sum h sizes) 0 (length sizes) (length (put 0 sizes g n)) (omega (arith, length_put 0 sizes g n)) (λ k past. grind (arith, get_or_past sizes k 0))
    ∙ sym (items_sum h sizes)))
  where
    same : (k : ℕ) → group_sum h (put 0 sizes g n) k ≡ group_sum h sizes k
    same k = grind (arith, cases_eq k g, put_other 0 sizes g n k, total_none (λ i. h (item_of g i)) 0 (get_or (put 0 sizes g n) g 0) (λ i ge lt. none i))

-- a list that counts for nothing may be between others
pub sum_put_again : {X : Type 0} (f : List X → ℕ) (xs : List (List X)) (g : ℕ) → f [] ≡ 0 → sum_by f (put [] xs g (get_or xs g [])) ≡ sum_by f xs
sum_put_again f [] zero none = omega (arith, sum_by-cons f [] [], none)
sum_put_again {X} f [] (suc g) none = let blank : List (List X) = [] in omega (arith, sum_put_again f blank g none, sum_by-cons f [] (put [] blank g []), none)
sum_put_again f (x ∷ xs) zero none = refl
sum_put_again f (x ∷ xs) (suc g) none = omega (arith, sum_put_again f xs g none, sum_by-cons f x (put [] xs g (get_or xs g [])), sum_by-cons f x xs)
