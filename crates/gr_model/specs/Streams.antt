-- The lists of a launch: of each work-group its number of items, and its records in the order of its stream; the trace of each item.
-- Source: docs/MODEL.md, "Streams and traces". An item's trace is its part of "sequenced-before" (OpenCL 2.0 specification, section 3.3, memory model).
use Rattle.std.specs.Prelude.{◌≡◌, ◌≢◌, ◌⊎◌, ℕ, ◌+◌, ◌<◌, ◌≤◌, Bool, false, List, [], ◌∷◌, length, slice_index, slice_index_or, slice_get, IsTrue, Some, Option, Vec, map, filter, ◌==◌, ◌&&◌, not, ◌++◌, suc, option_and_then, if◌then◌else◌}
use Rattle.gr_model.specs.Types.{Event, Sent, ItemId, EventId, Word, MOST_RECORDS}
use Rattle.gr_model.specs.declared.traces.TracesError.{TracesError}
use Rattle.gr_model.specs.declared.traces.TracesError.TheVariants.{WrongCount, TooManyRecords, BadEvent, NoEnd}
use Rattle.gr_model.specs.Access.{event_word}
use Rattle.gr_model.specs.Events.{IsEventOk, is_end}
use Rattle.gr_model.specs.Shapes.{IsPartOfShape, IsShape}

-- the sizes of the groups, and one list of records for each
pub record Streams : Type 0 where
  pub sizes : List ℕ
  pub lists : List (List Event)

-- the streams of these sizes and vectors
abbrev pub streams : {Z : Type 0} → List ℕ → List (Vec Event Z) → Streams
streams sizes lists = record { sizes = sizes; lists = map (λ v. v.items) lists }

-- the list of a group, and its number of items
abbrev pub list_of : Streams → ℕ → List Event
list_of s g = slice_index_or s.lists g []

abbrev pub size_of : Streams → ℕ → ℕ
size_of s g = slice_index s.sizes g

-- the events that one group sent, among those that several sent
abbrev pub events_of : ℕ → List Sent → List Event
events_of g [] = []
events_of g (s ∷ ss) = if s.group == g then s.event ∷ events_of g ss else events_of g ss

-- whether a list is complete: it ends in an end
abbrev pub is_complete : List Event → Bool
is_complete [] = false
is_complete (x ∷ []) = is_end x
is_complete (x ∷ y ∷ xs) = is_complete (y ∷ xs)

-- ---- accepted lists

-- a record that a group of so many items may have at this place
abbrev pub IsGoodAt : ℕ → List Event → ℕ → Event → Type 0
IsGoodAt items list p x = IsEventOk x items × (IsTrue (is_end x) → p + 1 ≡ length list)

abbrev pub AreGood : ℕ → List Event → Type 0
AreGood items list = (p : ℕ) (x : Event) → slice_get list p ≡ Some x → IsGoodAt items list p x

abbrev pub IsFirstBadPlace : ℕ → List Event → ℕ → Type 0
IsFirstBadPlace items list p =
    ((q : ℕ) (x : Event) → q < p → slice_get list q ≡ Some x → IsGoodAt items list q x)
    × ((x : Event) × (slice_get list p ≡ Some x) × ¬ IsGoodAt items list p x)

-- a complete list that a group of so many items may have
pub record IsAccepted (items : ℕ) (list : List Event) : Type 0 where
  pub few : length list ≤ MOST_RECORDS
  pub good : AreGood items list
  pub ended : IsTrue (is_complete list)

-- why a group's list is not accepted: the first of these causes that is there
abbrev pub IsListFault : ℕ → ℕ → List Event → TracesError → Type 0
IsListFault group items list WrongCount = ⊥
IsListFault group items list (TooManyRecords g) = (g ≡ group) × (MOST_RECORDS < length list)
IsListFault group items list (BadEvent g p) = (g ≡ group) × (length list ≤ MOST_RECORDS) × IsFirstBadPlace items list p
IsListFault group items list (NoEnd g) = (g ≡ group) × (length list ≤ MOST_RECORDS) × AreGood items list × ¬ IsTrue (is_complete list)

-- lists for the groups of a shape, each of them accepted
pub record AreAccepted (s : Streams) : Type 0 where
  pub shape : IsShape s.sizes
  pub count : length s.lists ≡ length s.sizes
  pub each : (g : ℕ) → g < length s.sizes → IsAccepted (size_of s g) (list_of s g)

-- what may have come so far of a list that a group of so many items may have
pub record IsPrefix (items : ℕ) (list : List Event) : Type 0 where
  pub few : length list ≤ MOST_RECORDS
  pub good : AreGood items list

-- what may have come so far of the lists of the groups of a shape, of which some may not have come yet
pub record ArePrefixes (s : Streams) : Type 0 where
  pub shape : IsPartOfShape s.sizes
  pub count : length s.lists ≡ length s.sizes
  pub each : (g : ℕ) → g < length s.sizes → IsPrefix (size_of s g) (list_of s g)

-- every group's list is complete
abbrev pub AreComplete : Streams → Type 0
AreComplete s = (g : ℕ) → g < length s.sizes → IsTrue (is_complete (list_of s g))

-- the first group whose list is not accepted, and why
pub record IsFaultOf (s : Streams) (g : ℕ) (e : TracesError) : Type 0 where
  pub there : g < length s.sizes
  pub before : (h : ℕ) → h < g → IsAccepted (size_of s h) (list_of s h)
  pub fault : IsListFault g (size_of s g) (list_of s g) e

-- there are not as many lists as groups, or else some list is not accepted
abbrev pub IsTracesFault : Streams → TracesError → Type 0
IsTracesFault s e = ((e ≡ WrongCount) × (length s.lists ≢ length s.sizes)) ⊎ ((length s.lists ≡ length s.sizes) × ((g : ℕ) × IsFaultOf s g e))

-- ---- traces

-- whether a record is one of the item's trace
abbrev pub is_of : ℕ → Event → Bool
is_of item x = (x.item == item) && not (is_end x)

-- the trace of an item: its records, without the end
abbrev pub trace_of : Streams → ItemId → List Event
trace_of s i = filter (is_of i.item) (list_of s i.group)

-- the event at a place of a trace, if there is one
abbrev pub event_at : Streams → EventId → Option Event
event_at s e = slice_get (trace_of s e.at) e.index

-- there is such an event
abbrev pub IsEvent : Streams → EventId → Type 0
IsEvent s e = (x : Event) × (event_at s e ≡ Some x)

-- its word, where it is an access
abbrev pub word_at : Streams → EventId → Option Word
word_at s e = option_and_then (event_word e.at.group) (event_at s e)

-- the places of the elements that pass a test, where the first of the list has place i
abbrev pub places_from : {X : Type 0} → (X → Bool) → ℕ → List X → List ℕ
places_from test i [] = []
places_from test i (x ∷ xs) = if test x then i ∷ places_from test (suc i) xs else places_from test (suc i) xs

-- the place in an item's trace of its k-th event that passes a test, k from 0
abbrev pub place_of : Streams → (Event → Bool) → ItemId → ℕ → Option ℕ
place_of s test i k = slice_get (places_from test 0 (trace_of s i)) k

-- ---- growth

-- t has of each group at least the records of s, in their order, and of a complete list no more; a group of which none has come may be of another size in t
pub record Grows (s t : Streams) : Type 0 where
  pub sizes : (g : ℕ) → (size_of s g ≡ size_of t g) ⊎ (list_of s g ≡ [])
  pub lists : (g : ℕ) → (more : List Event) × (list_of t g ≡ list_of s g ++ more)
  pub whole : (g : ℕ) → IsTrue (is_complete (list_of s g)) → list_of t g ≡ list_of s g
