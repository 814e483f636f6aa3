-- The one line of text of a header and of each event: words that a space parts.
-- Source: docs/FORMATS.md, "Text form".
use Rattle.std.specs.Prelude.{ℕ, Bool, true, false, List, [], ◌∷◌, ◌++◌, codes, decimal, ◌==◌, if◌then◌else◌}
use Rattle.std.specs.List.{flat_map}
use Rattle.gr_text.specs.Types.{Space, Global, Local, Scope, Group, Device, Order, Relaxed, Acquire, Release, Both, Kind, Read, Write, Load, Store, Rmw, Barrier, End, Name, Event, MOST_ITEMS_OF_A_GROUP, Header, Version, One, Two, Three, Four, Line, SitedLine}
use Rattle.gr_model.specs.Prelude.{IsEventOk}
use Rattle.gr_text.specs.declared.line.Line.TheVariants as lines
use Rattle.gr_record.specs.Prelude.{IsHeader}

abbrev pub space_word : Space → List ℕ
space_word Global = codes "g"
space_word Local = codes "l"

abbrev pub scope_word : Scope → List ℕ
scope_word Group = codes "grp"
scope_word Device = codes "dev"

abbrev pub order_word : Order → List ℕ
order_word Relaxed = codes "rlx"
order_word Acquire = codes "acq"
order_word Release = codes "rel"
order_word Both = codes "both"

-- the memories that a barrier's flags name
abbrev pub flags_word : Bool → Bool → List ℕ
flags_word false false = codes "-"
flags_word true false = codes "g"
flags_word false true = codes "l"
flags_word true true = codes "gl"

abbrev pub name_words : Name → List (List ℕ)
name_words n = codes "<" ∷ decimal n.at.group ∷ decimal n.at.item ∷ decimal n.release ∷ []

abbrev pub names_words : List Name → List (List ℕ)
names_words names = flat_map name_words names

abbrev pub atomic_words : List ℕ → Scope → Order → Event → List (List ℕ)
atomic_words kind scope order e = kind ∷ space_word e.space ∷ decimal e.word ∷ scope_word scope ∷ order_word order ∷ names_words e.names

-- the first word: the item, but for an end
abbrev pub first_word : Kind → ℕ → List ℕ
first_word (End cut) item = codes "end"
first_word _ item = decimal item

-- the words after it
abbrev pub later_words : Kind → Event → List (List ℕ)
later_words Read e = codes "r" ∷ space_word e.space ∷ decimal e.word ∷ []
later_words Write e = codes "w" ∷ space_word e.space ∷ decimal e.word ∷ []
later_words (Load scope order) e = atomic_words (codes "ld") scope order e
later_words (Store scope order) e = atomic_words (codes "st") scope order e
later_words (Rmw scope order) e = atomic_words (codes "rmw") scope order e
later_words (Barrier global local) e = codes "bar" ∷ decimal e.word ∷ flags_word global local ∷ []
later_words (End true) e = codes "cut" ∷ []
later_words (End false) e = []

-- a word after a space
abbrev pub spaced : List ℕ → List ℕ
spaced word = 32 ∷ word

abbrev pub later_text : List (List ℕ) → List ℕ
later_text words = flat_map spaced words

-- the version, but for the first
abbrev pub version_words : Version → List (List ℕ)
version_words One = []
version_words Two = codes "v2" ∷ []
version_words Three = codes "v3" ∷ []
version_words Four = codes "v4" ∷ []

abbrev pub header_words : Header → List (List ℕ)
header_words h = decimal h.group ∷ codes "items" ∷ decimal h.items ∷ codes "launch" ∷ decimal h.launch ∷ version_words h.version

-- the line, without its line feed
abbrev pub line_text : Line → List ℕ
line_text (lines.Header h) = codes "group" ++ later_text (header_words h)
line_text (lines.Event e) = first_word e.kind e.item ++ later_text (later_words e.kind e)

-- what has a line: a header in range, and an event that some stream may have
abbrev pub IsLine : Line → Type 0
IsLine (lines.Header h) = IsHeader h
IsLine (lines.Event e) = IsEventOk e MOST_ITEMS_OF_A_GROUP

-- the site at the end of a line: 0 is not written
abbrev pub site_text : ℕ → List ℕ
site_text site = if site == 0 then [] else spaced (codes "@" ++ decimal site)

-- a line with its site
abbrev pub sited_text : SitedLine → List ℕ
sited_text l = line_text l.line ++ site_text l.site
