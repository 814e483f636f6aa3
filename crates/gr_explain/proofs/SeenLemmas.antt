-- The pairs of a later access with the accesses of some items.
use Rattle.std.proofs.Common.{Equal, Greater, Less, Ordering}
use Rattle.gr_model.proofs.Common.{◌↔◌, ◌≡◌, ◌≢◌, ◌⊎◌, ℕ, IsTrue, List, [], ◌∷◌, ◌++◌, Option, Some, None, IsSome, MatchOption, ◌∙◌, sym, ap, inl, inr, ⊎_elim, arith, refl, true≢false, false, nat_tests, list_any-append, AllByRecursion}
use Rattle.std.specs.BTreeMap.{insert_entry, is_at}
use Rattle.std.specs.Map.{keys_of, lookup}
use Rattle.std.proofs.lemmas.Map.Keys.{sorted_head, sorted_tail}
use Rattle.std.specs.List.Sorted.{IsStrictlySortedBy}
use Rattle.gr_explain.specs.Types.{EventId, ItemId}
use Rattle.gr_model.specs.contracts.event.ItemIdOrd.TheImpl as item_order
use Rattle.gr_model.specs.Prelude.{IsTurned, Pair, EventBelow}
use Rattle.gr_clocks.specs.Rows.{same_item}
use Rattle.gr_clocks.proofs.RowLemmas.{same_item_self, same_items}
use Rattle.gr_shadow.specs.Clashes.{ClockedAccess, clashes_with, event_of}
use Rattle.gr_explain.specs.LeastRaces.{IsLeastOf, PairBelow}
use Rattle.gr_explain.specs.Seen.{IsAmong, IsClashing, IsFirstOf, IsItemBelow, IsPairWith, IsPassed, SeenList, has_index, is_of}
use Rattle.gr_explain.proofs.PairOrder.{least_group}

-- items, each with the indices of its events
abbrev pub Items : Type 0
Items = List (ItemId × List ℕ)

-- ---- items

item_ties : (i j : ItemId) → is_at ((item_order.cmp-value).it i) j ≡ same_item i j
item_ties i j = grind (arith, nat_tests)

-- what a look-up finds is among them
found_among : (items : Items) (e : EventId) (indices : List ℕ) → lookup (is_at ((item_order.cmp-value).it e.at)) items ≡ Some indices → IsTrue (has_index indices e.index) → IsAmong items e
found_among [] e indices found has = absurd (let none = found in cc)
found_among (x ∷ items) e indices found has = grind (arith, found_among items e indices)

-- the item of each is found
pub among_found : (items : Items) (e : EventId) → IsAmong items e → IsSome (lookup (is_at ((item_order.cmp-value).it e.at)) items)
among_found [] e among = absurd (true≢false (sym among))
among_found (x ∷ items) e among = grind (arith, among_found items e)

of_item : (x : ItemId × List ℕ) (e : EventId) → IsTrue (is_of e x) → (e.at ≡ x.0) × IsTrue (has_index x.1 e.index)
of_item x e of = grind (arith, item_ties, same_items)

-- an item's indices with one more
module _ (i : ItemId) (n : ℕ) (indices : List ℕ) (e : EventId) where
  abbrev pub HasMore : Items → Type 0
  HasMore items = (m : ℕ) → IsTrue (has_index indices m) ↔ ((m ≡ n) ⊎ MatchOption (lookup (is_at ((item_order.cmp-value).it i)) items) ⊥ (λ was. IsTrue (has_index was m)))

  new_or_was : (items : Items) → HasMore items → IsTrue (is_of e (i, indices)) → (e ≡ record { at = i; index = n }) ⊎ IsAmong items e
  new_or_was items more of = grind (arith, of_item (i, indices) e of, more e.index, found_among items e)

  new_is_of : (items : Items) → HasMore items → e ≡ record { at = i; index = n } → IsTrue (is_of e (i, indices))
  new_is_of items more is = grind (arith, item_ties, same_item_self, more n)

  put_step : (order : Ordering) (x : ItemId × List ℕ) (items : Items) → (item_order.cmp-value).it i x.0 ≡ order → HasMore (x ∷ items) → (HasMore items → IsAmong (insert_entry (item_order.cmp-value).it items i indices) e ↔ ((e ≡ record { at = i; index = n }) ⊎ IsAmong items e)) → IsAmong (insert_entry (item_order.cmp-value).it (x ∷ items) i indices) e ↔ ((e ≡ record { at = i; index = n }) ⊎ IsAmong (x ∷ items) e)
  put_step Less x items is more rest = grind (arith, new_or_was (x ∷ items) more, new_is_of (x ∷ items) more)
  put_step Equal x items is more rest =
      let same : i ≡ x.0 = grind (arith, item_ties i x.0, same_items) in
      let was : IsTrue (is_of e x) → IsTrue (is_of e (i, indices)) = λ of. grind (arith, item_ties, same_item_self, of_item x e of, more e.index) in
      grind (arith, same, was, new_or_was (x ∷ items) more, new_is_of (x ∷ items) more)
  put_step Greater x items is more rest = grind (arith, rest (λ m. grind (arith, more m)))

pub put_among : (items : Items) (i : ItemId) (n : ℕ) (indices : List ℕ) (e : EventId) → HasMore i n indices e items → IsAmong (insert_entry (item_order.cmp-value).it items i indices) e ↔ ((e ≡ record { at = i; index = n }) ⊎ IsAmong items e)
put_among [] i n indices e more = grind (arith, new_or_was i n indices e [] more, new_is_of i n indices e [] more)
put_among (x ∷ items) i n indices e more = put_step i n indices e ((item_order.cmp-value).it i x.0) x items refl more (put_among items i n indices e)

-- ---- pairs

-- an access clashes with none of its own item
clashing_apart : (seen : SeenList) (y : ClockedAccess) (e : EventId) → IsClashing seen y e → e.at ≢ y.item
clashing_apart seen y e h same = grind (arith, h.clash, same_item_self)

-- the pair of an event with the first of some others is not above its pair with another one
not_below_first : (d e f : EventId) (pair least : Pair) → (e ≡ d) ⊎ EventBelow d e → f ≢ d → IsTurned e f pair → EventBelow pair.0 pair.1 → IsTurned d f least → EventBelow least.0 least.1 → ¬ PairBelow pair least
not_below_first d e f pair least order apart turned up turned_least up_least below = grind arith

-- an event of an item below an item is below each of that item or of one above it
below_later : (e f : EventId) (i : ItemId) → IsItemBelow e.at i → (f.at ≡ i) ⊎ IsItemBelow i f.at → EventBelow e f
below_later e f i below later = grind arith

-- a pair of two events above the first of the least pair is not below that
pub pair_not_below : (e f : EventId) (pair least : Pair) → IsTurned e f pair → EventBelow least.0 e → EventBelow least.0 f → ¬ PairBelow pair least
pair_not_below e f pair least turned above_e above_f below = grind arith

-- the least pair so far is the least of itself alone
least_itself : (least : Option Pair) → IsLeastOf (λ p. least ≡ Some p) least
least_itself None = λ p none. absurd cc
least_itself (Some l) = (refl, λ p same. grind (arith, same))

-- ---- items in their order

above_all : (i : ItemId) (items : Items) (e : EventId) → AllByRecursion (λ k. (item_order.cmp-value).it i k ≡ Less) (keys_of items) → IsAmong items e → IsItemBelow i e.at
above_all i [] e all among = absurd (true≢false (sym among))
above_all i (x ∷ items) e all among = grind (arith, nat_tests, item_ties, same_items, above_all i items e all.1)

-- an event of these is of one before an item, or of the item, or of one above it
later_among : (before : Items) (x : ItemId × List ℕ) (items : Items) (e : EventId) → IsStrictlySortedBy (item_order.cmp-value).it (keys_of (before ++ x ∷ items)) → IsAmong (before ++ x ∷ items) e → IsAmong before e ⊎ (IsTrue (is_of e x) ⊎ IsItemBelow x.0 e.at)
later_among [] x items e sorted among = grind (arith, above_all x.0 items e (sorted_head (item_order.cmp-value).it x.0 (keys_of items) sorted))
later_among (k ∷ before) x items e sorted among = grind (arith, later_among before x items e (sorted_tail (item_order.cmp-value).it k.0 (keys_of (before ++ x ∷ items)) sorted))

among_last : (before : Items) (x : ItemId × List ℕ) (e : EventId) → IsAmong (before ++ x ∷ []) e → IsAmong before e ⊎ IsTrue (is_of e x)
among_last before x e among = grind (arith, list_any-append)

-- a list of items before one, none of whose events clashes
module _ (seen : SeenList) (y : ClockedAccess) (before : Items) (x : ItemId × List ℕ) (none_before : (e : EventId) → IsAmong before e → clashes_with e.at e.index seen.class y ≡ false) where
  pub none_more : IsFirstOf seen.class x.0 x.1 y None → (e : EventId) → IsAmong (before ++ x ∷ []) e → clashes_with e.at e.index seen.class y ≡ false
  none_more none e among = ⊎_elim (none_before e) (λ of. let here = of_item x e of in rw here.0 (none e.index here.1)) (among_last before x e among)

  module _ (items : Items) (left : before ++ x ∷ items ≡ seen.items) (sorted : IsStrictlySortedBy (item_order.cmp-value).it (keys_of seen.items)) where
    not_before : (e : EventId) → IsClashing seen y e → IsTrue (is_of e x) ⊎ IsItemBelow x.0 e.at
    not_before e is = ⊎_elim (λ was. absurd (true≢false (sym is.clash ∙ none_before e was))) (λ later. later) (later_among before x items e (rw left sorted) (rw left is.among))

    -- where the least pair so far is below all that are left
    pub least_passed : (least : Option Pair) → IsPassed least x.0 (event_of y) → IsLeastOf (λ p. (least ≡ Some p) ⊎ IsPairWith seen y p) least
    least_passed least passed = rw passed.least_is (
      inl refl,
      λ p d. ⊎_elim (λ same. grind (arith, same)) (λ (with : IsPairWith seen y p). pair_not_below with.earlier (event_of y) p passed.pair with.turned
          (below_later passed.pair.0 with.earlier x.0 passed.item_below (⊎_elim (λ of. inl (of_item x with.earlier of).0) (λ above. inr above) (not_before with.earlier with.clashing))) passed.event_below) d,
    )

    -- where the item has a first event that clashes
    module _ (d : EventId) (first : IsFirstOf seen.class x.0 x.1 y (Some d)) where
      first_clashes : IsClashing seen y d
      first_clashes = record { among = rw (← left) (grind (arith, list_any-append, item_ties, same_item_self)); clash = grind arith }

      first_or_above : (e : EventId) → IsClashing seen y e → (e ≡ d) ⊎ EventBelow d e
      first_or_above e is = ⊎_elim
          (λ of. let here = of_item x e of in grind (arith, here, first.0, first.3 e.index here.1 (rw here.0 at is.clash)))
          (λ above. grind (arith, first.0))
          (not_before e is)

      pub least_with_first : (least : Option Pair) (pair r : Pair) → IsTurned d (event_of y) pair → (d ≢ event_of y → EventBelow pair.0 pair.1) → MatchOption least (r ≡ pair) (λ l. ((r ≡ pair) × PairBelow pair l) ⊎ ((r ≡ l) × ¬ PairBelow pair l)) → IsLeastOf (λ p. (least ≡ Some p) ⊎ IsPairWith seen y p) (Some r)
      least_with_first least pair r turned up is =
          let apart : event_of y ≢ d = λ same. clashing_apart seen y d first_clashes (ap (λ (e : EventId). e.at) (sym same)) in
          let above = up (λ same. apart (sym same)) in
          least_group (λ p. least ≡ Some p) (λ p. (least ≡ Some p) ⊎ IsPairWith seen y p) least pair r (λ p same. inl same)
          (λ p h. ⊎_elim (λ same. inl same) (λ (with : IsPairWith seen y p). inr (not_below_first d with.earlier (event_of y) p pair (first_or_above with.earlier with.clashing) apart with.turned with.below turned above)) h)
          (inr (record { earlier = d; clashing = first_clashes; turned = turned; below = above })) is (least_itself least)

-- where a later access clashes with none, the least pair stays
pub least_if_none : (seen : SeenList) (y : ClockedAccess) (least : Option Pair) → ((e : EventId) → ¬ IsClashing seen y e) → IsLeastOf (λ p. (least ≡ Some p) ⊎ IsPairWith seen y p) least
least_if_none seen y None none = λ p h. ⊎_elim (λ same. absurd cc) (λ w. none w.earlier w.clashing) h
least_if_none seen y (Some l) none = (inl refl, λ p h. ⊎_elim (λ same. grind (arith, same)) (λ w. absurd (none w.earlier w.clashing)) h)
