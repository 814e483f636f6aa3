-- What a line says, word by word.
-- Source: docs/FORMATS.md, "Text form".
use Rattle.std.specs.Prelude.{◌≡◌, ◌≢◌, ℕ, zero, suc, ◌-◌, ◌^◌, ◌<◌, Bool, true, false, ◌&&◌, List, [], ◌∷◌, Option, Some, None, nat_eq, nat_lt, nat_le, ◌==◌, codes, decimal, All, length, take, drop, slice_index, if◌then◌else◌}
use Rattle.std.specs.Cmp.Lexicographic.{pointwise}
use Rattle.std.specs.Str.Parse.{digits_value}
use Rattle.gr_text.specs.Types.{MOST_NAMES, Kind, Read, Write, Load, Store, Rmw, Barrier, Name, Event, Header, Line, SitedLine, Version, One, Two, Three, Four, Space, Global, Local, Scope, Group, Device, Order, Relaxed, Acquire, Release, Both}
use Rattle.gr_model.specs.Prelude.{end_of}
use Rattle.gr_text.specs.declared.line.Line.TheVariants as lines
use Rattle.gr_record.specs.Prelude.{has_sites, most_groups, most_items, is_order_ok, is_naming_ok, naming}

-- whether two lists of bytes are the same
unfoldable pub same : List ℕ → List ℕ → Bool
same a b = pointwise nat_eq a b

-- the number that a word spells
unfoldable pub number_of : List ℕ → Option ℕ
number_of word = if nat_lt (digits_value 10 word) (2 ^ 32) && same word (decimal (digits_value 10 word)) then Some (digits_value 10 word) else None

-- ---- words

-- bytes, none of which is this one
abbrev pub IsWithout : ℕ → List ℕ → Type 0
IsWithout mark bytes = All (λ b. b ≢ mark) bytes

-- a word has no space
abbrev pub IsWord : List ℕ → Type 0
IsWord word = IsWithout 32 word

-- the place of the first byte that is this one
pub record IsFirst (mark : ℕ) (bytes : List ℕ) (at : ℕ) : Type 0 where
  pub there : at < length bytes
  pub before : (k : ℕ) → k < at → slice_index bytes k ≢ mark
  pub mark_there : slice_index bytes at ≡ mark

-- a byte and what comes after it, if it is there
abbrev pub behind_mark : ℕ → Option (List ℕ) → List ℕ
behind_mark mark None = []
behind_mark mark (Some rest) = mark ∷ rest

-- what comes after a word
abbrev pub behind_space : Option (List ℕ) → List ℕ
behind_space rest = behind_mark 32 rest

-- what comes before the first byte that is this one, and what comes after it, if there is one
unfoldable pub cut_at : ℕ → List ℕ → List ℕ × Option (List ℕ)
cut_at mark [] = ([], None)
cut_at mark (b ∷ bytes) = if b == mark then ([], Some bytes) else (b ∷ (cut_at mark bytes).0, (cut_at mark bytes).1)

-- the first word, and what comes after its space, if there is one
abbrev pub first_of : List ℕ → List ℕ × Option (List ℕ)
first_of bytes = cut_at 32 bytes

-- ---- words that say a thing

unfoldable pub space_said : List ℕ → Option Space
space_said word = if same word (codes "g") then Some Global else if same word (codes "l") then Some Local else None

unfoldable pub scope_said : List ℕ → Option Scope
scope_said word = if same word (codes "grp") then Some Group else if same word (codes "dev") then Some Device else None

unfoldable pub order_said : List ℕ → Option Order
order_said word =
    if same word (codes "rlx") then Some Relaxed
    else if same word (codes "acq") then Some Acquire
    else if same word (codes "rel") then Some Release
    else if same word (codes "both") then Some Both
    else None

unfoldable pub flags_said : List ℕ → Option (Bool × Bool)
flags_said word =
    if same word (codes "-") then Some (false, false)
    else if same word (codes "g") then Some (true, false)
    else if same word (codes "l") then Some (false, true)
    else if same word (codes "gl") then Some (true, true)
    else None

-- ---- lines

infixl 10 ◌>>=◌
abbrev pub ◌>>=◌ : {X Y : Type 0} → Option X → (X → Option Y) → Option Y
None >>= f = None
(Some x) >>= f = f x

-- a value, if nothing comes after it
abbrev pub at_end : {X : Type 0} → Option (List ℕ) → Option X → Option X
at_end None o = o
at_end (Some rest) o = None

-- a number of 16 bits
unfoldable pub short_of : List ℕ → Option ℕ
short_of word = number_of word >>= λ n. if nat_lt n 65536 then Some n else None

abbrev pub header_made : Version → ℕ → ℕ → ℕ → Option Header
header_made version group items launch =
    if nat_lt group (most_groups version) && nat_le 1 items && nat_le items (most_items version) then Some (record { version = version; group = group; items = items; launch = launch })
    else None

-- what comes after the launch: the version, but for the first
abbrev pub version_said : Option (List ℕ) → Option Version
version_said None = Some One
version_said (Some bytes) = if same bytes (codes "v2") then Some Two else if same bytes (codes "v3") then Some Three else if same bytes (codes "v4") then Some Four else None

-- what comes after `group`
unfoldable pub header_said : List ℕ → Option Header
header_said bytes =
    let group = first_of bytes in group.1 >>= λ b.
    let key = first_of b in key.1 >>= λ c.
    let items = first_of c in items.1 >>= λ d.
    let other_key = first_of d in other_key.1 >>= λ e.
    let launch = first_of e in
    version_said launch.1 >>= λ v.
    (if same key.0 (codes "items") && same other_key.0 (codes "launch") then
    (short_of group.0 >>= λ g. short_of items.0 >>= λ i. number_of launch.0 >>= λ l. header_made v g i l)
    else None)

-- a name, and what comes after it
unfoldable pub name_said : List ℕ → Option (Name × Option (List ℕ))
name_said bytes =
    let sign = first_of bytes in sign.1 >>= λ b.
    let group = first_of b in group.1 >>= λ c.
    let item = first_of c in item.1 >>= λ d.
    let release = first_of d in
    if same sign.0 (codes "<") then
    (short_of group.0 >>= λ g. short_of item.0 >>= λ i. number_of release.0 >>= λ r. Some (record { at = record { group = g; item = i }; release = r }, release.1))
    else None

-- what comes after an acquire's order: at most so many names
unfoldable pub names_said : Option (List ℕ) → ℕ → Option (List Name)
names_said None n = Some []
names_said (Some bytes) zero = None
names_said (Some bytes) (suc n) = name_said bytes >>= λ x. names_said x.1 n >>= λ names. Some (x.0 ∷ names)

unfoldable pub kind_said : List ℕ → Scope → Order → Option Kind
kind_said word scope order =
    if same word (codes "ld") then Some (Load scope order)
    else if same word (codes "st") then Some (Store scope order)
    else if same word (codes "rmw") then Some (Rmw scope order)
    else None

-- what comes after the word of an atomic access
unfoldable pub atomic_said : List ℕ → ℕ → Space → ℕ → List ℕ → Option Event
atomic_said kind item space word bytes =
    let scope = first_of bytes in scope.1 >>= λ b.
    let order = first_of b in
    scope_said scope.0 >>= λ s. order_said order.0 >>= λ o. kind_said kind s o >>= λ k. names_said order.1 MOST_NAMES >>= λ said. naming Four k said >>= λ names.
    Some (record { item = item; kind = k; space = space; word = word; names = names })

unfoldable pub barrier_said : ℕ → List ℕ → List ℕ → Option Event
barrier_said item site flags =
    number_of site >>= λ w. flags_said flags >>= λ f.
    Some (record { item = item; kind = Barrier f.0 f.1; space = Global; word = w; names = [] })

-- what comes after the item
unfoldable pub event_said : ℕ → List ℕ → Option Event
event_said item bytes =
    let kind = first_of bytes in kind.1 >>= λ b.
    let second = first_of b in second.1 >>= λ c.
    let third = first_of c in
    if same kind.0 (codes "bar") then at_end third.1 (barrier_said item second.0 third.0)
    else space_said second.0 >>= λ space. number_of third.0 >>= λ word.
    (if same kind.0 (codes "r") then at_end third.1 (Some (record { item = item; kind = Read; space = space; word = word; names = [] }))
    else if same kind.0 (codes "w") then at_end third.1 (Some (record { item = item; kind = Write; space = space; word = word; names = [] }))
    else third.1 >>= λ d. atomic_said kind.0 item space word d)

-- an event that a stream of this version may have
abbrev pub checked : Version → Event → Option Event
checked v e = if nat_lt e.item (most_items v) && is_order_ok e.kind && is_naming_ok v e.kind e.names then Some e else None

-- what comes after `end`
abbrev pub end_said : Option (List ℕ) → Option Event
end_said None = Some (end_of false)
end_said (Some bytes) = if same bytes (codes "cut") then Some (end_of true) else None

unfoldable pub line_said : Version → List ℕ → Option Line
line_said v bytes =
    let first = first_of bytes in
    if same first.0 (codes "group") then (first.1 >>= λ b. header_said b >>= λ h. Some (lines.Header h))
    else if same first.0 (codes "end") then (end_said first.1 >>= λ e. Some (lines.Event e))
    else short_of first.0 >>= λ item. first.1 >>= λ b. event_said item b >>= λ x. checked v x >>= λ e. Some (lines.Event e)

-- ---- the site at the end of a record's line

-- the bytes before a space that ends them, if one does
unfoldable pub unspaced : List ℕ → Option (List ℕ)
unspaced bytes = if same (drop (length bytes - 1) bytes) (codes " ") then Some (take (length bytes - 1) bytes) else None

abbrev pub event_in : Line → Option Event
event_in (lines.Header h) = None
event_in (lines.Event e) = Some e

-- what comes before and after the first `@`: the number of a site is not 0
abbrev pub sited_by : Version → List ℕ → Option (List ℕ) → Option SitedLine
sited_by v before None = line_said v before >>= λ l. Some (record { line = l; site = 0 })
sited_by v before (Some behind) =
    if has_sites v then (short_of behind >>= λ s. if s == 0 then None else unspaced before >>= λ front. line_said v front >>= λ l. event_in l >>= λ e. Some (record { line = lines.Event e; site = s }))
    else None

-- a line with the site at its end, after ` @`
unfoldable pub sited_said : Version → List ℕ → Option SitedLine
sited_said v bytes = sited_by v (cut_at 64 bytes).0 (cut_at 64 bytes).1
