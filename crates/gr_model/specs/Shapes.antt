-- How many work-items each work-group of a launch has: a list of numbers, by group.
-- Source: docs/MODEL.md, "Launch and shape".
use Rattle.std.specs.Prelude.{◌≡◌, ℕ, ◌<◌, ◌≤◌, List, length, slice_index, sum, All}
use Rattle.std.specs.List.{flat_map, range_with_len}
use Rattle.std.specs.Prelude.{map}
use Rattle.gr_model.specs.Types.{ItemId, FEW_GROUPS, FEW_ITEMS_OF_A_GROUP, MOST_GROUPS, MOST_ITEMS_OF_A_GROUP, MOST_ITEMS}
use Rattle.gr_model.specs.declared.shape.ShapeError.{ShapeError}
use Rattle.gr_model.specs.declared.shape.ShapeError.TheVariants.{NoGroups, TooManyGroups, BadItems, TooManyItems}

-- some items, and at most so many
abbrev pub IsSizeWithin : ℕ → ℕ → Type 0
IsSizeWithin most n = (1 ≤ n) × (n ≤ most)

abbrev pub IsGroupSize : ℕ → Type 0
IsGroupSize n = IsSizeWithin MOST_ITEMS_OF_A_GROUP n

-- at least one group and at most so many, each with items and at most so many, and not too many items in all
pub record IsShapeWithin (most_groups most_items : ℕ) (sizes : List ℕ) : Type 0 where
  pub some : 1 ≤ length sizes
  pub groups : length sizes ≤ most_groups
  pub each : All (IsSizeWithin most_items) sizes
  pub total : sum sizes ≤ MOST_ITEMS

-- the sizes of a launch
abbrev pub IsShape : List ℕ → Type 0
IsShape sizes = IsShapeWithin MOST_GROUPS MOST_ITEMS_OF_A_GROUP sizes

-- the sizes of a launch whose streams are of versions 1 and 2
abbrev pub IsSmallShape : List ℕ → Type 0
IsSmallShape sizes = IsShapeWithin FEW_GROUPS FEW_ITEMS_OF_A_GROUP sizes

-- the sizes of groups that may become a shape: those of no items have not come yet
pub record IsPartOfShape (sizes : List ℕ) : Type 0 where
  pub groups : length sizes ≤ MOST_GROUPS
  pub each : All (λ n. n ≤ MOST_ITEMS_OF_A_GROUP) sizes
  pub total : sum sizes ≤ MOST_ITEMS

-- there is such a group, and it has such an item
abbrev pub HasItem : List ℕ → ItemId → Type 0
HasItem sizes i = (i.group < length sizes) × (i.item < slice_index sizes i.group)

-- the items, by group and by their place in it
abbrev pub items_of : List ℕ → List ItemId
items_of sizes = flat_map (λ g. map (λ i. record { group = g; item = i }) (range_with_len 0 (slice_index sizes g))) (range_with_len 0 (length sizes))

-- the least group whose number of items is none that a group of at most so many may have
pub record IsFirstBadSize (most : ℕ) (sizes : List ℕ) (g : ℕ) : Type 0 where
  pub there : g < length sizes
  pub before : (k : ℕ) → k < g → IsSizeWithin most (slice_index sizes k)
  pub bad : ¬ IsSizeWithin most (slice_index sizes g)

-- why sizes are no shape of at most so many groups, each of at most so many items: the first of these causes that is there
abbrev pub IsFaultWithin : ℕ → ℕ → List ℕ → ShapeError → Type 0
IsFaultWithin groups items sizes NoGroups = length sizes ≡ 0
IsFaultWithin groups items sizes TooManyGroups = groups < length sizes
IsFaultWithin groups items sizes (BadItems g) = (1 ≤ length sizes) × (length sizes ≤ groups) × IsFirstBadSize items sizes g
IsFaultWithin groups items sizes TooManyItems = (1 ≤ length sizes) × (length sizes ≤ groups) × All (IsSizeWithin items) sizes × (MOST_ITEMS < sum sizes)

-- why sizes are no shape
abbrev pub IsShapeFault : List ℕ → ShapeError → Type 0
IsShapeFault sizes e = IsFaultWithin MOST_GROUPS MOST_ITEMS_OF_A_GROUP sizes e

-- why sizes are none of a launch whose streams are of versions 1 and 2
abbrev pub IsSmallShapeFault : List ℕ → ShapeError → Type 0
IsSmallShapeFault sizes e = IsFaultWithin FEW_GROUPS FEW_ITEMS_OF_A_GROUP sizes e
