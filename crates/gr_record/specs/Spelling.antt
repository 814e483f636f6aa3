-- The one spelling of a header and of each record, as bytes. Numbers are little endian.
-- Source: docs/FORMATS.md, "Stream".
use Rattle.std.specs.Prelude.{ℕ, ◌+◌, ◌*◌, ◌^◌, ◌<◌, ◌≤◌, Bool, List, [], ◌∷◌, ◌++◌, length, replicate, Option, Some, None, All, zero, suc, if◌then◌else◌}
use Rattle.std.specs.List.{flat_map}
use Rattle.byteorder.specs.Endian.{little_bytes}
use Rattle.gr_record.specs.Types.{Space, Global, Local, Scope, Group, Device, Order, Relaxed, Acquire, Release, Both, Kind, Read, Write, Load, Store, Rmw, Barrier, End, Name, Event, Header, Version, One, Two, Three, Four}
use Rattle.gr_model.specs.Prelude.{IsEventOk, IsNameWithin}
use Rattle.gr_record.specs.Versions.{places, most_groups, most_items}
use Rattle.gr_record.specs.Sites.{Sited, IsSite}

-- a byte for a space, a scope, an order, a truth
abbrev pub space_byte : Space → ℕ
space_byte Global = 0
space_byte Local = 1

abbrev pub scope_byte : Scope → ℕ
scope_byte Group = 1
scope_byte Device = 2

abbrev pub order_byte : Order → ℕ
order_byte Relaxed = 1
order_byte Acquire = 2
order_byte Release = 3
order_byte Both = 4

abbrev pub bit : Bool → ℕ
bit b = if b then 1 else 0

-- the bytes 0 to 3 of a record: its kind; the space, the flags or the cut mark; the scope; the order
abbrev pub kind_bytes : Kind → Space → List ℕ
kind_bytes Read space = 0 ∷ space_byte space ∷ 0 ∷ 0 ∷ []
kind_bytes Write space = 1 ∷ space_byte space ∷ 0 ∷ 0 ∷ []
kind_bytes (Load scope order) space = 2 ∷ space_byte space ∷ scope_byte scope ∷ order_byte order ∷ []
kind_bytes (Store scope order) space = 3 ∷ space_byte space ∷ scope_byte scope ∷ order_byte order ∷ []
kind_bytes (Rmw scope order) space = 4 ∷ space_byte space ∷ scope_byte scope ∷ order_byte order ∷ []
kind_bytes (Barrier global local) space = 5 ∷ (bit global + 2 * bit local) ∷ 0 ∷ 0 ∷ []
kind_bytes (End cut) space = 6 ∷ bit cut ∷ 0 ∷ 0 ∷ []

-- the eight bytes of a name
abbrev pub name_bytes : Name → List ℕ
name_bytes name = little_bytes 2 name.at.group ++ little_bytes 2 name.at.item ++ little_bytes 4 name.release

-- a place for a name; the bytes of an unused one are 255
abbrev pub place_bytes : Option Name → List ℕ
place_bytes None = replicate 8 255
place_bytes (Some name) = name_bytes name

-- so many places: the names are in the first ones
abbrev pub names_bytes : ℕ → List Name → List ℕ
names_bytes zero names = []
names_bytes (suc n) [] = place_bytes None ++ names_bytes n []
names_bytes (suc n) (name ∷ names) = place_bytes (Some name) ++ names_bytes n names

-- the bytes 0 to 11 of a record
abbrev pub fields_bytes : Event → ℕ → List ℕ
fields_bytes e site = kind_bytes e.kind e.space ++ little_bytes 2 e.item ++ little_bytes 2 site ++ little_bytes 4 e.word

-- a record in a stream of this version
abbrev pub event_spelling : Version → Sited → List ℕ
event_spelling v r = fields_bytes r.event r.site ++ names_bytes (places v) r.event.names

-- `GRT1` to `GRT4`
abbrev pub version_byte : Version → ℕ
version_byte One = 0x31
version_byte Two = 0x32
version_byte Three = 0x33
version_byte Four = 0x34

-- these four bytes, then group, items and launch
abbrev pub header_spelling : Header → List ℕ
header_spelling h = 0x47 ∷ 0x52 ∷ 0x54 ∷ version_byte h.version ∷ little_bytes 2 h.group ++ little_bytes 2 h.items ++ little_bytes 4 h.launch

abbrev pub events_spelling : Version → List Sited → List ℕ
events_spelling v rs = flat_map (event_spelling v) rs

-- a header that a stream may begin with
pub record IsHeader (h : Header) : Type 0 where
  pub group : h.group < most_groups h.version
  pub some : 1 ≤ h.items
  pub items : h.items ≤ most_items h.version
  pub launch : h.launch < 2 ^ 32

-- an event that a stream of so many items may have: a group may have it, and its word is a number of 4 bytes
pub record IsEvent (items : ℕ) (e : Event) : Type 0 where
  pub ok : IsEventOk e items
  pub word : e.word < 2 ^ 32

-- names of a launch whose streams are of this version
abbrev pub AreNamesOf : Version → List Name → Type 0
AreNamesOf v names = All (IsNameWithin (most_groups v) (most_items v)) names

-- a record that the stream of this header may have: it has room for the names, they are those of a launch of its version, and the site is one that its records may say
pub record IsRecord (h : Header) (r : Sited) : Type 0 where
  pub event : IsEvent h.items r.event
  pub names : length r.event.names ≤ places h.version
  pub range : AreNamesOf h.version r.event.names
  pub site : IsSite h.version r.site
