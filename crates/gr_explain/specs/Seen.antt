-- The accesses to a word that came so far, and the pairs of a later one with those with which it clashes.
use Rattle.std.specs.Prelude.{◌≡◌, ◌<◌, ◌≤◌, ◌⊎◌, ◌&&◌, ℕ, Bool, false, IsTrue, List, [], MatchOption, Option, Some}
use Rattle.std.specs.List.{list_any}
use Rattle.std.specs.BTreeMap.{is_at}
use Rattle.std.specs.Ordering.{nat_cmp}
use Rattle.gr_explain.specs.Types.{EventId, ItemId, Class}
use Rattle.gr_model.specs.contracts.event.ItemIdOrd.TheImpl as item_order
use Rattle.gr_model.specs.Prelude.{IsTurned, Pair, EventBelow}
use Rattle.gr_shadow.specs.Clashes.{ClockedAccess, clashes_with, event_of}

-- the events of accesses of one class: of each item the indices
pub record SeenList : Type 0 where
  pub class : Class
  pub items : List (ItemId × List ℕ)

abbrev pub nothing_seen : Class → SeenList
nothing_seen class = record { class = class; items = [] }

-- whether an index is one of these
abbrev pub has_index : List ℕ → ℕ → Bool
has_index indices n = list_any (is_at (nat_cmp n)) indices

-- whether an event is one of an item's
abbrev pub is_of : EventId → ItemId × List ℕ → Bool
is_of e entry = is_at ((item_order.cmp-value).it e.at) entry.0 && has_index entry.1 e.index

-- an event is one of these
abbrev pub IsAmong : List (ItemId × List ℕ) → EventId → Type 0
IsAmong items e = IsTrue (list_any (is_of e) items)

-- a later access clashes with that of an event
pub record IsClashing (seen : SeenList) (y : ClockedAccess) (e : EventId) : Type 0 where
  pub among : IsAmong seen.items e
  pub clash : IsTrue (clashes_with e.at e.index seen.class y)

-- the first event of an item with which it clashes, if there is one, of those of a class with these indices
abbrev pub IsFirstOf : Class → ItemId → List ℕ → ClockedAccess → Option EventId → Type 0
IsFirstOf class item indices y first =
    MatchOption first ((n : ℕ) → IsTrue (has_index indices n) → clashes_with item n class y ≡ false)
    (λ d. (d.at ≡ item) × IsTrue (has_index indices d.index) × IsTrue (clashes_with item d.index class y) × ((n : ℕ) → IsTrue (has_index indices n) → IsTrue (clashes_with item n class y) → d.index ≤ n))

-- the pair of a later access with one with which it clashes, the smaller event first
pub record IsPairWith (seen : SeenList) (y : ClockedAccess) (pair : Pair) : Type 0 where
  pub earlier : EventId
  pub clashing : IsClashing seen y earlier
  pub turned : IsTurned earlier (event_of y) pair
  pub below : EventBelow pair.0 pair.1

-- an item comes before another, by its group and its place in it
abbrev pub IsItemBelow : ItemId → ItemId → Type 0
IsItemBelow i j = (i.group < j.group) ⊎ ((i.group ≡ j.group) × (i.item < j.item))

-- the first event of the least pair so far is of an item below this one, and is below this event: so no pair of this event with one of this
-- item is below that pair
pub record IsPassed (least : Option Pair) (item : ItemId) (event : EventId) : Type 0 where
  pub pair : Pair
  pub least_is : least ≡ Some pair
  pub item_below : IsItemBelow pair.0.at item
  pub event_below : EventBelow pair.0 event
