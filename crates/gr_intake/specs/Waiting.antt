-- Records that have come and wait to be taken.
-- Source: docs/FORMATS.md, "Stream".
use Rattle.std.specs.Prelude.{◌≡◌, ℕ, ◌<◌, ◌≤◌, Bool, List, [], ◌∷◌, ◌++◌, drop, filter, length, slice_index_or, if◌then◌else◌}
use Rattle.gr_intake.specs.Types.{Event, Name, Header, Short}

-- a stream with the records of it that wait
pub record Coming : Type 0 where
  pub header : Header
  pub waiting : List Event

-- one record more waits
abbrev pub with_waiting : Coming → Event → Coming
with_waiting c e = record { header = c.header; waiting = c.waiting ++ e ∷ [] }

-- ---- how they are kept

-- a record without the releases that it names, and whether it names some
abbrev pub short_of : Event → Bool → Short
short_of e has_names = record { item = e.item; kind = e.kind; space = e.space; word = e.word; has_names = has_names }

-- the record that names these
abbrev pub with_names : Short → List Name → Event
with_names s names = record { item = s.item; kind = s.kind; space = s.space; word = s.word; names = names }

-- what the next record names, of these lists
abbrev pub first_names : Bool → List (List Name) → List Name
first_names has_names lists = if has_names then slice_index_or lists 0 [] else []

-- and those that are left then
abbrev pub behind_names : Bool → List (List Name) → List (List Name)
behind_names has_names lists = if has_names then drop 1 lists else lists

-- the records, which name these
unfoldable pub listed : List Short → List (List Name) → List Event
listed [] lists = []
listed (s ∷ shorts) lists = with_names s (first_names s.has_names lists) ∷ listed shorts (behind_names s.has_names lists)

-- there is a list of names for each record that has some
abbrev pub AreNamed : List Short → List (List Name) → Type 0
AreNamed shorts lists = length lists ≡ length (filter (λ s. s.has_names) shorts)

-- pieces, where nothing waits in those below a place
pub record ArePieces (pieces : List (List Event)) (first : ℕ) : Type 0 where
  pub below : first ≤ length pieces
  pub read : (k : ℕ) → k < first → slice_index_or pieces k [] ≡ []
