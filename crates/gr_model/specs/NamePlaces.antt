-- How names are kept: the names first, and then places that are not used.
use Rattle.std.specs.Prelude.{◌≡◌, ℕ, ◌-◌, ◌++◌, List, length, take, replicate}
use Rattle.gr_model.specs.Types.{Name, MOST_NAMES}
use Rattle.gr_model.specs.NameLists.{AreNames}

-- what a place that is not used holds
abbrev pub unused : Name
unused = record { at = record { group = 0; item = 0 }; release = 0 }

-- the names that are kept in these places
abbrev pub names_in : List Name → ℕ → List Name
names_in places count = take count places

-- the places of these names
abbrev pub places_of : List Name → List Name
places_of names = names ++ replicate (MOST_NAMES - length names) unused

-- so many names are kept in these places, and the rest are not used
pub record AreKept (places : List Name) (count : ℕ) : Type 0 where
  pub names : AreNames (names_in places count)
  pub counted : length (names_in places count) ≡ count
  pub filled : places_of (names_in places count) ≡ places
