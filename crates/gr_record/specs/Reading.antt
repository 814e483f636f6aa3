-- What the bytes of a header and of a record say, or their first fault.
-- Source: docs/FORMATS.md, "Stream" and "Faults of a whole record".
use Rattle.std.specs.Prelude.{ℕ, zero, suc, ◌-◌, ◌^◌, Bool, true, not, ◌&&◌, ◌||◌, List, [], ◌∷◌, length, drop, slice_index, Option, Some, None, Result, Ok, Err, nat_lt, nat_le, ◌==◌, if◌then◌else◌}
use Rattle.std.specs.List.{range_with_len, find}
use Rattle.byteorder.specs.Endian.{little_number}
use Rattle.gr_record.specs.Types.{Space, Global, Local, Scope, Group, Device, Order, Relaxed, Acquire, Release, Both, Kind, Read, Write, Load, Store, Rmw, Barrier, End, Name, Event, MOST_NAMES, MOST_RECORDS, Header, Version, One, Two, Three, Four, RecordError}
use Rattle.gr_model.specs.Prelude.{acquires, releases, is_acquire_kind}
use Rattle.gr_record.specs.Versions.{places, has_sites, most_groups, most_items}
use Rattle.gr_record.specs.declared.error.RecordError.TheVariants as errors

-- the number in the n bytes from place i, the lowest byte first
abbrev pub field : ℕ → ℕ → List ℕ → ℕ
field i n bytes = little_number n (drop i bytes)

-- ---- headers

-- the version that the first four bytes say, as a number: `GRT1` to `GRT4`
abbrev pub version_of : ℕ → Option Version
version_of magic = if magic == 0x31545247 then Some One else if magic == 0x32545247 then Some Two else if magic == 0x33545247 then Some Three else if magic == 0x34545247 then Some Four else None

-- what a whole header of this version says: group, items and launch
abbrev pub header_behind : Option Version → List ℕ → Result Header RecordError
header_behind None bytes = Err errors.BadMagic
header_behind (Some version) bytes =
    if nat_le (most_groups version) (field 4 2 bytes) || (field 6 2 bytes == 0) || nat_lt (most_items version) (field 6 2 bytes) then Err errors.BadHeader
    else Ok (record { version = version; group = field 4 2 bytes; items = field 6 2 bytes; launch = field 8 4 bytes })

-- what a whole header says
unfoldable pub header_at : List ℕ → Result Header RecordError
header_at bytes = header_behind (version_of (field 0 4 bytes)) bytes

-- ---- the fields of a record

-- load, store and read-modify-write
abbrev pub is_atomic : ℕ → Bool
is_atomic kind = (kind == 2) || (kind == 3) || (kind == 4)

-- whether a record whose byte 0 is kind may have this byte at a place from 1 to 11: the space, the flags of a barrier or the cut mark of an end; the scope; the order; two bytes that are 0 where a record says no site; and an end has no item and no word
abbrev pub is_field_ok : Version → ℕ → ℕ → ℕ → Bool
is_field_ok version kind place byte =
    if place == 1 then (if kind == 5 then nat_lt byte 4 else nat_lt byte 2)
    else if place == 2 then (if is_atomic kind then (byte == 1) || (byte == 2) else byte == 0)
    else if place == 3 then (if is_atomic kind then nat_le 1 byte && nat_le byte 4 else byte == 0)
    else if (place == 6) || (place == 7) then (byte == 0) || has_sites version
    else not (kind == 6) || (byte == 0)

-- the first of n places, from this one on, that has a bad byte
unfoldable pub bad_field_from : Version → List ℕ → ℕ → ℕ → Option ℕ
bad_field_from version bytes place n = find (λ p. not (is_field_ok version (slice_index bytes 0) p (slice_index bytes p))) (range_with_len place n)

abbrev pub bad_field : Version → List ℕ → Option ℕ
bad_field version bytes = bad_field_from version bytes 1 11

-- the number of the site of a record: 0 where it says none
unfoldable pub site_at : Version → List ℕ → ℕ
site_at version bytes = if has_sites version then field 6 2 bytes else 0

abbrev pub space_of : ℕ → Space
space_of byte = if byte == 1 then Local else Global

abbrev pub scope_of : ℕ → Scope
scope_of byte = if byte == 1 then Group else Device

abbrev pub order_of : ℕ → Order
order_of byte = if byte == 1 then Relaxed else if byte == 2 then Acquire else if byte == 3 then Release else Both

unfoldable pub kind_of : List ℕ → Kind
kind_of bytes =
    let kind = slice_index bytes 0 in
    let flag = slice_index bytes 1 in
    let scope = scope_of (slice_index bytes 2) in
    let order = order_of (slice_index bytes 3) in
    if kind == 0 then Read
    else if kind == 1 then Write
    else if kind == 2 then Load scope order
    else if kind == 3 then Store scope order
    else if kind == 4 then Rmw scope order
    else if kind == 5 then Barrier ((flag == 1) || (flag == 3)) ((flag == 2) || (flag == 3))
    else End (flag == 1)

-- the memory of an access; a barrier and an end have the first
unfoldable pub space_at : List ℕ → Space
space_at bytes = if nat_lt (slice_index bytes 0) 5 then space_of (slice_index bytes 1) else Global

-- whether so many places for names are unused: their bytes are all 255
unfoldable pub are_unused : ℕ → List ℕ → Bool
are_unused zero bytes = true
are_unused (suc n) bytes = (field 0 8 bytes == 2 ^ 64 - 1) && are_unused n (drop 8 bytes)

-- the name in the first eight bytes
unfoldable pub name_in : List ℕ → Name
name_in bytes = record { at = record { group = field 0 2 bytes; item = field 2 2 bytes }; release = field 4 4 bytes }

-- what so many places have, up to those that are unused
unfoldable pub names_in : ℕ → List ℕ → List Name
names_in zero bytes = []
names_in (suc n) bytes = if are_unused (suc n) bytes then [] else name_in bytes ∷ names_in n (drop 8 bytes)

-- the names of a record, from its byte 12 on
abbrev pub names_at : Version → List ℕ → List Name
names_at version bytes = names_in (places version) (drop 12 bytes)

-- ---- records

-- a load does not release, and a store does not acquire
abbrev pub is_order_ok : Kind → Bool
is_order_ok (Load scope order) = not (releases order)
is_order_ok (Store scope order) = not (acquires order)
is_order_ok _ = true

-- a name that some launch could have whose streams are of this version
abbrev pub is_in_range : Version → Name → Bool
is_in_range v name = nat_lt name.at.group (most_groups v) && nat_lt name.at.item (most_items v) && nat_lt name.release MOST_RECORDS

-- by group, then by item, then by number
abbrev pub is_below : Name → Name → Bool
is_below m n =
    nat_lt m.at.group n.at.group || ((m.at.group == n.at.group) && (nat_lt m.at.item n.at.item || ((m.at.item == n.at.item) && nat_lt m.release n.release)))

-- a name is below the first of these, if there is one
abbrev pub is_below_first : Name → List Name → Bool
is_below_first m [] = true
is_below_first m (n ∷ names) = is_below m n

-- each is in range, and below the next
abbrev pub are_in_order : Version → List Name → Bool
are_in_order v [] = true
are_in_order v (n ∷ names) = is_in_range v n && is_below_first n names && are_in_order v names

-- only an acquire has names, and they are names that one acquire may have
abbrev pub is_naming_ok : Version → Kind → List Name → Bool
is_naming_ok v kind [] = true
is_naming_ok v kind (n ∷ names) = is_acquire_kind kind && nat_le (length (n ∷ names)) MOST_NAMES && are_in_order v (n ∷ names)

-- the names that a record of this kind has in a stream of this version, if it may have them
abbrev pub naming : Version → Kind → List Name → Option (List Name)
naming v kind names = if is_naming_ok v kind names then Some names else None

abbrev pub unless_bad : {X : Type 0} → Option ℕ → Result X RecordError → Result X RecordError
unless_bad (Some place) next = Err (errors.BadField place)
unless_bad None next = next

-- what follows where the names are those that the record may have
abbrev pub unless_bad_names : {X : Type 0} → Option (List Name) → (List Name → Result X RecordError) → Result X RecordError
unless_bad_names None next = Err errors.BadName
unless_bad_names (Some names) next = next names

-- what a whole record says in the stream of this header
unfoldable pub event_at : Header → List ℕ → Result Event RecordError
event_at h bytes =
    if nat_lt 6 (slice_index bytes 0) then Err errors.BadKind
    else unless_bad (bad_field h.version bytes)
    (if not (is_order_ok (kind_of bytes)) then Err errors.BadOrder
    else unless_bad_names (naming h.version (kind_of bytes) (names_at h.version bytes)) (λ names.
    if nat_le h.items (field 4 2 bytes) then Err errors.UnknownItem
    else Ok (record { item = field 4 2 bytes; kind = kind_of bytes; space = space_at bytes; word = field 8 4 bytes; names = names })))
