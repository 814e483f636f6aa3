-- The file with which another file does not fit, by the groups in their headers.
-- Source: docs/OUTPUT.md, "check".
use Rattle.std.specs.Prelude.{ℕ, ◌+◌, Bool, false, ◌&&◌, nat_le, List, Option, None, Some, option_and_then, position, slice_get, Result, Ok, Err}
use Rattle.gr_places.specs.Types.{MOST_GROUPS, RecordError, Header}
use Rattle.gr_record.specs.Prelude.{front_header_at}

abbrev pub group_of : Result (Header × List ℕ) RecordError → Option ℕ
group_of (Ok h) = Some h.0.group
group_of (Err e) = None

-- the group in the header at the front of the bytes, if there is one
abbrev pub group_at : List ℕ → Option ℕ
group_at bytes = group_of (front_header_at bytes)

-- whether there is a group, from least to most
abbrev pub is_between : ℕ → ℕ → Option ℕ → Bool
is_between least most None = false
is_between least most (Some g) = nat_le least g && nat_le g most

-- the name of the first file whose group is from least to most
abbrev pub first_between : List (List ℕ) → List (List ℕ) → ℕ → ℕ → Option (List ℕ)
first_between names inputs least most = option_and_then (slice_get names) (position (λ bytes. is_between least most (group_at bytes)) inputs)

-- the first file of this group, and the first of a greater one
abbrev pub first_of : List (List ℕ) → List (List ℕ) → ℕ → Option (List ℕ)
first_of names inputs g = first_between names inputs g g

abbrev pub first_above : List (List ℕ) → List (List ℕ) → ℕ → Option (List ℕ)
first_above names inputs g = first_between names inputs (g + 1) MOST_GROUPS

-- the first file that is of the same group as the one at this place
abbrev pub first_like : List (List ℕ) → List (List ℕ) → ℕ → Option (List ℕ)
first_like names inputs place = option_and_then (first_of names inputs) (option_and_then group_at (slice_get inputs place))
