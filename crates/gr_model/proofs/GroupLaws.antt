-- What may have come stays so where a group gets its items, and its lists have grown.
use Rattle.gr_model.proofs.Common.{◌≡◌, ℕ, ◌+◌, ◌<◌, ◌≤◌, List, [], ◌∷◌, length, slice_index, sum, refl, ⊎_elim, append-nil, arith, ◌≢◌, get_or_past}
use Rattle.gr_model.specs.Types.{Event, ItemId, MOST_GROUPS, MOST_ITEMS, MOST_ITEMS_OF_A_GROUP}
use Rattle.gr_model.specs.Prelude.{CanAdd, put, with_group, HasItem, IsPartOfShape, IsShape, ArePrefixes, Grows, Streams, list_of, size_of}
use Rattle.gr_model.proofs.PutLemmas.{all_put, length_put, put_other, put_same, sum_put}

-- a shape is one of which all has come
pub part_of_shape : (sizes : List ℕ) → IsShape sizes → IsPartOfShape sizes
part_of_shape sizes shape = grind arith

-- before the first group
pub part_of_none : IsPartOfShape []
part_of_none = grind arith

-- a group comes that had not, where there is room for it
pub part_with_group : (sizes : List ℕ) (g n : ℕ) → IsPartOfShape sizes → g < MOST_GROUPS → slice_index sizes g ≡ 0 → n ≤ MOST_ITEMS_OF_A_GROUP → sum sizes + n ≤ MOST_ITEMS → IsPartOfShape (put 0 sizes g n)
part_with_group sizes g n part group none size room =
    grind (arith, length_put 0 sizes g n, all_put (λ m. m ≤ MOST_ITEMS_OF_A_GROUP) sizes g n (omega arith) size part.each, sum_put sizes g n none)

module _ (s : Streams) (g n : ℕ) where
  -- of each group as much has come as before
  pub list_stays : (h : ℕ) → list_of (with_group s g n) h ≡ list_of s h
  list_stays h = grind (arith, put_same, put_other)

  pub size_now : size_of (with_group s g n) g ≡ n
  size_now = put_same 0 s.sizes g n

  pub size_stays : (h : ℕ) → h ≢ g → size_of (with_group s g n) h ≡ size_of s h
  size_stays h apart = put_other 0 s.sizes g n h apart

  module _ (prefixes : ArePrefixes s) (can : CanAdd s g n) where
    -- nothing came of a group that has no items
    pub nothing_came : list_of s g ≡ []
    nothing_came = nothing (list_of s g) refl
      where
        nothing : (list : List Event) → list_of s g ≡ list → list ≡ []
        nothing [] is = refl
        nothing (x ∷ xs) is =
            grind (arith, get_or_past s.lists g, prefixes.count, (λ (there : g < length s.sizes). (prefixes.each g there).good 0 x), can.none)

    pub group_grows : Grows s (with_group s g n)
    group_grows = grind (arith, nothing_came, size_stays, list_stays, append-nil)

    pub prefixes_with_group : ArePrefixes (with_group s g n)
    prefixes_with_group = record {
      shape = part_with_group s.sizes g n prefixes.shape can.group can.none can.size.1 can.total;
      count = omega (arith, length_put [] s.lists g (list_of s g), length_put 0 s.sizes g n, prefixes.count);
      each = λ h there. ⊎_elim
          (λ (none : list_of s h ≡ []). grind (arith, list_stays h))
          (λ (old : (h ≢ g) × (h < length s.sizes)). rw (list_stays h, size_stays h old.0) (prefixes.each h old.1))
          (grind (arith, nothing_came, get_or_past s.lists h, prefixes.count));
    }

    -- and its own
    pub item_was : (i : ItemId) → i.group ≢ g → HasItem (with_group s g n).sizes i → HasItem s.sizes i
    item_was i apart has = grind (arith, size_stays, get_or_past)
