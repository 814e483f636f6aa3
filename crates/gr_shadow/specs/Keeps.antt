-- What is kept of the accesses to a word: a touch of each, or a later one in its place.
use Rattle.std.specs.Prelude.{◌≡◌, ℕ, ◌≤◌, Bool, ◌&&◌, not, nat_lt, List, [], ◌∷◌, ◌++◌, Contains}
use Rattle.gr_model.specs.declared.class.Class.{Class}
use Rattle.gr_model.specs.declared.class.Class.TheVariants.{PlainRead, PlainWrite, GroupRead, GroupModify, DeviceRead, DeviceModify}
use Rattle.gr_clocks.specs.Rows.{same_item}
use Rattle.gr_clocks.specs.Counts.{count_of}
use Rattle.gr_clocks.specs.ClockedAccess.{ClockedAccess}
use Rattle.gr_shadow.specs.declared.touch.Touch.{Touch}
use Rattle.gr_shadow.specs.Clashes.{clashes_with}

abbrev pub touch_of : ClockedAccess → Touch
touch_of x = record { item = x.item; index = x.index; class = x.class }

-- a later access clashes with that of a touch
abbrev pub touch_clashes : ClockedAccess → Touch → Bool
touch_clashes y t = clashes_with t.item t.index t.class y

-- a later access is of another item than a touch, and its clock does not count the touch
abbrev pub is_unseen : ClockedAccess → Touch → Bool
is_unseen y t = not (same_item t.item y.item) && not (nat_lt t.index (count_of y.clock t.item))

-- ---- what is kept of a list of touches

-- a touch represents another: it is of its item and class, and its index is not smaller
pub record IsInPlaceOf (t u : Touch) : Type 0 where
  pub item : t.item ≡ u.item
  pub class : t.class ≡ u.class
  pub index : u.index ≤ t.index

-- what is kept is of the list, and each touch of the list has one that represents it
pub record Keeps (kept all : List Touch) : Type 0 where
  pub each : (t : Touch) → Contains kept t → Contains all t
  pub some : (u : Touch) → Contains all u → (t : Touch) × Contains kept t × IsInPlaceOf t u

-- ---- where it is kept

-- the group by which touches of a class are kept apart
abbrev pub kept_group : Class → ℕ → ℕ
kept_group PlainRead group = 0
kept_group PlainWrite group = 0
kept_group GroupRead group = group
kept_group GroupModify group = group
kept_group DeviceRead group = 0
kept_group DeviceModify group = 0

-- touches of a class, and of a group where the class has group scope
pub record TouchList : Type 0 where
  pub class : Class
  pub group : ℕ
  pub touches : List Touch

pub record IsOfClass (class : Class) (group : ℕ) (t : Touch) : Type 0 where
  pub same : t.class ≡ class
  pub apart : kept_group t.class t.item.group ≡ group

abbrev pub all_touches : List TouchList → List Touch
all_touches [] = []
all_touches (l ∷ lists) = l.touches ++ all_touches lists
