-- The names that one acquire may have: none to four, strictly ascending, each of them in range.
-- Source: docs/MODEL.md, "Names of releases".
use Rattle.std.specs.Prelude.{◌≡◌, ℕ, ◌⊎◌, ◌<◌, ◌≤◌, List, length, All}
use Rattle.std.specs.List.{AllAdjacentBelow}
use Rattle.gr_model.specs.Types.{Name, FEW_GROUPS, FEW_ITEMS_OF_A_GROUP, MOST_GROUPS, MOST_ITEMS_OF_A_GROUP, MOST_NAMES, MOST_RECORDS}

-- a name of a release that some launch of at most so many groups, each of at most so many items, could have
abbrev pub IsNameWithin : ℕ → ℕ → Name → Type 0
IsNameWithin groups items n = (n.at.group < groups) × (n.at.item < items) × (n.release < MOST_RECORDS)

-- a name of a release that some launch could have
abbrev pub IsNameInRange : Name → Type 0
IsNameInRange n = IsNameWithin MOST_GROUPS MOST_ITEMS_OF_A_GROUP n

-- by group, then by item, then by number
abbrev pub NameBelow : Name → Name → Type 0
NameBelow m n = (m.at.group < n.at.group) ⊎ ((m.at.group ≡ n.at.group) × ((m.at.item < n.at.item) ⊎ ((m.at.item ≡ n.at.item) × (m.release < n.release))))

-- each name is below the next
abbrev pub AreAscending : List Name → Type 0
AreAscending names = AllAdjacentBelow NameBelow names (length names)

-- the names that one acquire may have in a launch of at most so many groups, each of at most so many items
pub record AreNamesWithin (groups items : ℕ) (names : List Name) : Type 0 where
  pub few : length names ≤ MOST_NAMES
  pub ascending : AreAscending names
  pub each : All (IsNameWithin groups items) names

-- the names that one acquire may have
abbrev pub AreNames : List Name → Type 0
AreNames names = AreNamesWithin MOST_GROUPS MOST_ITEMS_OF_A_GROUP names

-- the names that one acquire may have in a stream of version 1 or 2
abbrev pub AreFewNames : List Name → Type 0
AreFewNames names = AreNamesWithin FEW_GROUPS FEW_ITEMS_OF_A_GROUP names
