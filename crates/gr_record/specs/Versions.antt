-- What the version of a stream says: how many names a record has room for, how many bytes it has, whether it says its site, and how many groups and items its launch may have.
-- Source: docs/FORMATS.md, "Stream".
use Rattle.std.specs.Prelude.{ℕ, Bool, true, false}
use Rattle.gr_record.specs.Types.{FEW_GROUPS, FEW_ITEMS_OF_A_GROUP, MOST_GROUPS, MOST_ITEMS_OF_A_GROUP, MOST_NAMES, Version, One, Two, Three, Four, RECORD_LENGTH, LONG_RECORD_LENGTH}

abbrev pub places : Version → ℕ
places One = 1
places Two = MOST_NAMES
places Three = 1
places Four = MOST_NAMES

-- whether bytes 6 and 7 of a record are the number of its site
abbrev pub has_sites : Version → Bool
has_sites One = false
has_sites Two = false
has_sites Three = true
has_sites Four = true

-- how many groups its launch may have, and how many items each of them
abbrev pub most_groups : Version → ℕ
most_groups One = FEW_GROUPS
most_groups Two = FEW_GROUPS
most_groups Three = MOST_GROUPS
most_groups Four = MOST_GROUPS

abbrev pub most_items : Version → ℕ
most_items One = FEW_ITEMS_OF_A_GROUP
most_items Two = FEW_ITEMS_OF_A_GROUP
most_items Three = MOST_ITEMS_OF_A_GROUP
most_items Four = MOST_ITEMS_OF_A_GROUP

abbrev pub record_length : Version → ℕ
record_length One = RECORD_LENGTH
record_length Two = LONG_RECORD_LENGTH
record_length Three = RECORD_LENGTH
record_length Four = LONG_RECORD_LENGTH
