-- The line of a word's least racing pair, or that it has none.
-- Source: docs/OUTPUT.md, "explain".
use Rattle.std.specs.Prelude.{ℕ, List, ◌++◌, Option, None, Some, decimal, codes}
use Rattle.gr_model.specs.declared.event.EventId.{EventId}
use Rattle.gr_places.specs.Types.{Global, Local, Word}
use Rattle.gr_model.specs.Prelude.{Pair}

-- a word of memory
abbrev pub word_text : Word → List ℕ
word_text (Global number) = codes "global " ++ decimal number
word_text (Local group number) = codes "local " ++ decimal group ++ codes " " ++ decimal number

-- an event, by its group, item and index
abbrev pub event_text : EventId → List ℕ
event_text e = decimal e.at.group ++ codes " " ++ decimal e.at.item ++ codes " " ++ decimal e.index

-- a word and its racing pair, or a word that has none
abbrev pub explanation_line : Word → Option Pair → List ℕ
explanation_line w None = codes "no race " ++ word_text w ++ codes "\n"
explanation_line w (Some pair) = codes "race " ++ word_text w ++ codes ": " ++ event_text pair.0 ++ codes " with " ++ event_text pair.1 ++ codes "\n"
