-- Tables with an entry for each work-item: what is read at an item, and what is written there.
use Rattle.gr_model.proofs.Common.{◌≡◌, ◌≢◌, ℕ, ◌+◌, ◌<◌, true, List, [], ◌∷◌, ◌++◌, map, length, slice_index, get_or, set, ap, ◌∙◌, arith, nat_tests, get_or-set_at, length-map, get_or-set_same, get_or-set_other, get_or_push, get_or_append_left, length_push, set-get_or}
use Rattle.std.proofs.Math.ListN.{get_or-map}
use Rattle.gr_model.specs.declared.event.ItemId.{ItemId}
use Rattle.gr_model.specs.Prelude.{HasItem}
use Rattle.gr_clocks.specs.Rows.{entry_of, same_item}

-- ---- items

pub same_items : (i j : ItemId) → same_item i j ≡ true → i ≡ j
same_items i j t = grind (arith, nat_tests)

pub same_item_self : (i : ItemId) → same_item i i ≡ true
same_item_self i = grind (arith, nat_tests)

-- an item is known by its group and its place in it
pub one_item : (i j : ItemId) → i.group ≡ j.group → i.item ≡ j.item → i ≡ j
one_item i j group item = λ d. record { group = group d; item = item d }

-- ---- one entry of a table is written

pub row_size : {X : Type 0} (t : List (List X)) (g : ℕ) → slice_index (map length t) g ≡ length (get_or t g [])
row_size t g = get_or-map length t g []

pub row_of_item : {X : Type 0} (t : List (List X)) (i : ItemId) → HasItem (map length t) i → (i.group < length t) × (i.item < length (get_or t i.group []))
row_of_item t i has = grind (arith, length-map t length, row_size t i.group, has.0, has.1)

pub entry_same : {X : Type 0} (none : X) (t : List (List X)) (i : ItemId) (x : X) → i.group < length t → i.item < length (get_or t i.group []) → entry_of none (set t i.group (set (get_or t i.group []) i.item x)) i ≡ x
entry_same none t i x group item = grind (arith, get_or-set_same)

pub entry_other : {X : Type 0} (none : X) (t : List (List X)) (i : ItemId) (x : X) (j : ItemId) → i.group < length t → i ≢ j → entry_of none (set t i.group (set (get_or t i.group []) i.item x)) j ≡ entry_of none t j
entry_other none t i x j group other = grind (arith, get_or-set_at, get_or-set_other, one_item)

-- ---- what holds at each place

-- with one element more
pub each_push : {X : Type 0} (P : ℕ → X → Type 0) (none : X) (xs more : List X) (x : X) (n : ℕ) → length xs ≡ n → ((k : ℕ) → k < n → P k (get_or xs k none)) → P n x → more ≡ xs ++ x ∷ [] → (k : ℕ) → k < n + 1 → P k (get_or more k none)
each_push P none xs more x n size each last is k below = grind (arith, get_or_push, get_or_append_left)

-- so many elements, of each of which this holds at its place
pub record AreEach {X : Type 0} (P : ℕ → X → Type 0) (none : X) (xs : List X) (n : ℕ) : Type 0 where
  pub size : length xs ≡ n
  pub each : (k : ℕ) → k < n → P k (get_or xs k none)

pub more_are_each : {X : Type 0} {P : ℕ → X → Type 0} {none : X} {xs more : List X} {x : X} {n : ℕ} → AreEach P none xs n → more ≡ xs ++ x ∷ [] → P n x → AreEach P none more (n + 1)
more_are_each {P} {none} {xs} {more} {x} {n} are is last = record {
  size = grind (arith, are.size, length_push);
  each = each_push P none xs more x n are.size are.each last is;
}

-- with another element at one place
pub each_set : {X : Type 0} (P : ℕ → X → Type 0) (none : X) (xs : List X) (p : ℕ) (x : X) → p < length xs → P p x → (k : ℕ) → (k ≢ p → P k (get_or xs k none)) → P k (get_or (set xs p x) k none)
each_set P none xs p x there here k others = grind (arith, get_or-set_at, get_or-set_other)

-- what is put in the place of an element like it
pub put_back : {X : Type 0} (xs : List X) (p : ℕ) (x : X) → x ≡ get_or xs p x → set xs p x ≡ xs
put_back xs p x reads = ap (set xs p) reads ∙ set-get_or xs p x
