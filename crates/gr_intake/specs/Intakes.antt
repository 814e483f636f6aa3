-- What was read of streams that follow one another, and what the bytes after it add.
-- Source: docs/FORMATS.md, "Several streams".
use Rattle.std.specs.Prelude.{◌≡◌, ◌≢◌, ℕ, ◌-◌, ◌<◌, ◌≤◌, Bool, true, false, ◌==◌, List, All, AllPairs, [], ◌∷◌, ◌++◌, length, map, slice_index, Contains, Option, Some, None, IfSome, option_map, Result, Ok, Err, if◌then◌else◌}
use Rattle.gr_intake.specs.Types.{Event, MOST_RECORDS, Fault, Header, HEADER_LENGTH, RecordError, TooManyRecords}
use Rattle.gr_intake.specs.declared.open.Open.{Open}
use Rattle.gr_intake.specs.declared.intake.Intake.{Intake}
use Rattle.gr_model.specs.Prelude.{IsEventOk, is_end, Streams, list_of}
use Rattle.gr_record.specs.declared.fault.Fault.TheVariants.{MissingGroup, Shape}
use Rattle.gr_model.specs.declared.shape.ShapeError.TheVariants.{NoGroups}
use Rattle.gr_record.specs.Prelude.{Records, records_of, event_at, IsHeader, record_length, whole}
use Rattle.gr_order.specs.Sequences.{IsSequence, Sequence}
use Rattle.gr_shadow.specs.Launches.{LaunchKept}
use Rattle.gr_intake.specs.Joined.{Flat, ◌>>=◌, at_place, joined_at}
use Rattle.gr_intake.specs.Laws.{AreStreams}
use Rattle.gr_intake.specs.Sequencing.{AreShadowsOf}
use Rattle.gr_intake.specs.Waiting.{Coming}

-- ---- streams as far as they have come

-- what was taken of a stream, and what waits
abbrev pub come_of : Streams → Coming → Flat
come_of taken c = record { header = c.header; events = list_of taken c.header.group ++ c.waiting }

abbrev pub come : Streams → List Coming → List Flat
come taken cs = map (come_of taken) cs

-- one record more has come
abbrev pub with_event : Flat → Event → Flat
with_event f e = record { header = f.header; events = f.events ++ e ∷ [] }

-- the next record of a stream, where so many have come
abbrev pub next_event_at : Header → ℕ → List ℕ → Result Event RecordError
next_event_at h count bytes = if count == MOST_RECORDS then Err TooManyRecords else event_at h bytes

-- this record is next
pub record IsNextEvent (h : Header) (count : ℕ) (bytes : List ℕ) (e : Event) : Type 0 where
  pub read : event_at h bytes ≡ Ok e
  pub good : IsEventOk e h.items
  pub few : count < MOST_RECORDS

-- records that a group of so many items may have, and no end among them
abbrev pub AreOpen : ℕ → List Event → Type 0
AreOpen items [] = Unit {0}
AreOpen items (e ∷ events) = (IsEventOk e items × (is_end e ≡ false)) × AreOpen items events

-- the header of a stream that may follow others
pub record MayFollow (seen : List Header) (h : Header) : Type 0 where
  pub header : IsHeader h
  pub group : All (λ s. s.group ≢ h.group) seen
  pub launch : All (λ s. s.launch ≡ h.launch) seen

-- a stream that may follow others, as far as it has come: its end has not
pub record IsNext (seen : List Header) (f : Flat) : Type 0 where
  pub follows : MayFollow seen f.header
  pub few : length f.events ≤ MOST_RECORDS
  pub events : AreOpen f.header.items f.events

abbrev pub headers_of : List Coming → List Header
headers_of cs = map (λ c. c.header) cs

-- the groups of streams with these headers have their items, and no others have come
pub record AreGroupsOf (sizes : List ℕ) (headers : List Header) : Type 0 where
  pub there : (h : Header) → Contains headers h → (h.group < length sizes) × (slice_index sizes h.group ≡ h.items)
  pub top : (g : ℕ) → g < length sizes → (h : Header) × Contains headers h × (g ≤ h.group)
  pub others : (g : ℕ) → ((h : Header) → Contains headers h → h.group ≢ g) → slice_index sizes g ≡ 0

-- headers of one launch, and the sizes of their groups
pub record AreSeen (sizes : List ℕ) (headers : List Header) : Type 0 where
  pub groups : AreGroupsOf sizes headers
  pub some : All (λ h. 0 < h.items) headers
  pub launch : AllPairs (λ g h. g.launch ≡ h.launch) headers

-- ---- what was read

abbrev pub list_in : {X : Type 0} → Option X → List X
list_in None = []
list_in (Some x) = x ∷ []

-- the streams that came whole, and the one that goes on
pub record IsRead (q : Sequence) (kept : LaunchKept) (whole : List Coming) (current : Option Coming) : Type 0 where
  pub sequence : IsSequence q
  pub shadows : AreShadowsOf q kept
  pub streams : AreStreams (come q.taken whole)
  pub headers : AreSeen q.taken.sizes (headers_of (whole ++ list_in current))
  pub next : IfSome current (λ c. IsNext (headers_of whole) (come_of q.taken c))

-- how a stream that goes on is kept: once one record has to wait, all later ones wait
pub record IsKeptOpen {Z : Type 0} (taken : Streams) (o : Open Z) : Type 0 where
  pub count : o.count ≡ length (come_of taken o.backlog).events
  pub waits : o.waits ≡ false → o.backlog.waiting ≡ []

abbrev pub coming_in : {Z : Type 0} → Option (Open Z) → Option Coming
coming_in current = option_map (λ o. o.backlog) current

abbrev pub IsIntake : {Z : Type 0} → Intake Z → Type 0
IsIntake i = IsRead i.sequencer i.shadows i.streams.items (coming_in i.current) × IfSome i.current (IsKeptOpen i.sequencer.taken)

-- nothing was read
abbrev pub IsNew : {Z : Type 0} → Intake Z → Type 0
IsNew i = (i.streams.items ≡ []) × (i.current ≡ None)

-- no stream goes on
abbrev pub IsBetween : {Z : Type 0} → Intake Z → Type 0
IsBetween i = i.current ≡ None

-- the streams that came whole
abbrev pub streams_in : {Z : Type 0} → Intake Z → List Flat
streams_in i = come i.sequencer.taken i.streams.items

-- ---- what bytes add

-- records before those of a reading
abbrev pub behind_events : List Event → Records → Records
behind_events before r = record { events = before ++ r.events; rest = r.rest; stop = r.stop }

-- streams that came whole, one that goes on if there is one, and those that follow in the bytes
abbrev pub read_behind : List Flat → Option Flat → List ℕ → Result (List Flat) Fault
read_behind seen None bytes = joined_at (length bytes) seen bytes
read_behind seen (Some f) bytes =
    at_place (length seen) (whole (behind_events f.events (records_of f.header (MOST_RECORDS - length f.events) bytes))) >>= λ r. joined_at (length r.1) (seen ++ record { header = f.header; events = r.0 } ∷ []) r.1

abbrev pub behind : {Z : Type 0} → Intake Z → List ℕ → Result (List Flat) Fault
behind i bytes = read_behind (come i.sequencer.taken i.streams.items) (option_map (λ o. come_of i.sequencer.taken o.backlog) i.current) bytes

-- the stream that goes on has come whole, or not
abbrev pub read_on : Bool → Streams → List Coming → Coming → List ℕ → Result (List Flat) Fault
read_on true taken whole c bytes = read_behind (come taken (whole ++ c ∷ [])) None bytes
read_on false taken whole c bytes = read_behind (come taken whole) (Some (come_of taken c)) bytes

-- it goes on, and these bytes are no whole record of it
pub record Stays {Z : Type 0} (q : Sequence) (kept : LaunchKept) (whole : List Coming) (o : Open Z) (bytes : List ℕ) : Type 0 where
  pub read : IsRead q kept whole (Some o.backlog)
  pub as_kept : IsKeptOpen q.taken o
  pub short : length bytes < record_length o.backlog.header.version

-- the bytes that a header or a record has, whichever comes next
abbrev pub unit_at : Option Coming → ℕ
unit_at None = HEADER_LENGTH
unit_at (Some c) = record_length c.header.version

abbrev pub unit_of : {Z : Type 0} → Intake Z → ℕ
unit_of i = unit_at (coming_in i.current)

-- bytes were read, and these are left, after which more may come
pub record Moves {Z : Type 0} (old : Intake Z) (bytes : List ℕ) (new : Intake Z) (rest : List ℕ) : Type 0 where
  pub intake : IsIntake new
  pub goes : (more : List ℕ) → behind old (bytes ++ more) ≡ behind new (rest ++ more)
  pub left : (front : List ℕ) × (bytes ≡ front ++ rest)

-- where all are left, they are no whole header or record
abbrev pub IsStuck : {Z : Type 0} → List ℕ → Intake Z → List ℕ → Type 0
IsStuck bytes new rest = length rest ≡ length bytes → length bytes < unit_of new

-- ---- all that was read

-- why the sizes of groups that have come are those of no launch
abbrev pub IsGap : List ℕ → Fault → Type 0
IsGap sizes (Shape NoGroups) = length sizes ≡ 0
IsGap sizes (MissingGroup g) = (g < length sizes) × (slice_index sizes g ≡ 0) × ((k : ℕ) → k < g → slice_index sizes k ≢ 0)
IsGap sizes _ = ⊥
