-- Prefixes of lists, and what a prefix of a work-group's stream says.
-- Source: docs/QUEUES.md, "What is sent".
use Rattle.std.specs.Prelude.{◌≡◌, ℕ, List, ◌++◌, IsTrue}
use Rattle.gr_model.specs.declared.event.Event.{Event}
use Rattle.gr_model.specs.Prelude.{IsAccepted, IsPrefix, is_complete}

-- the list begins with these
abbrev pub StartsWith : {T : Type 0} → List T → List T → Type 0
StartsWith {T} list prefix = (rest : List T) × (list ≡ prefix ++ rest)

-- the list ends with these
abbrev pub EndsWith : {T : Type 0} → List T → List T → Type 0
EndsWith {T} list end = (prefix : List T) × (list ≡ prefix ++ end)

-- ---- laws

-- a prefix that has the end is the whole
abbrev pub EndMakesWhole : Type 0
EndMakesWhole = (items : ℕ) (list prefix : List Event) → IsPrefix items list → StartsWith list prefix → IsTrue (is_complete prefix) → prefix ≡ list

-- and the model accepts it
abbrev pub EndMakesAccepted : Type 0
EndMakesAccepted = (items : ℕ) (list : List Event) → IsPrefix items list → IsTrue (is_complete list) → IsAccepted items list
