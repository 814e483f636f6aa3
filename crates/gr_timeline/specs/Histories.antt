-- The accesses to one word of a launch, in an order in which they can be handled, each with those that happen before it.
-- Source: docs/MODEL.md, "Lawful orders" and "Happens-before".
use Rattle.std.specs.Prelude.{◌≡◌, ℕ, ◌<◌, Bool, List, [], ◌∷◌, ◌++◌, Some, filter, length, map, nat_lt, slice_get, take}
use Rattle.gr_timeline.specs.Types.{EventId, Word, Entry}
use Rattle.gr_model.specs.Prelude.{memory_of, HappensBefore, IsWholeOrder, Streams}
use Rattle.gr_clocks.specs.ClockedAccess.{ClockedAccess}
use Rattle.gr_clocks.specs.Counts.{Counts, count_of}
use Rattle.gr_timeline.specs.Accesses.{IsOn}
use Rattle.gr_shadow.specs.Clashes.{event_of}
use Rattle.gr_shadow.specs.Kept.{Kept, same_word}
use Rattle.gr_shadow.specs.StandsFor.{StandsFor, accesses_to}
use Rattle.gr_timeline.specs.Selections.{AreThose}

-- an access, how many are above it, and some of those, without the allocator
pub record Line : Type 0 where
  pub event : EventId
  pub above : ℕ
  pub behind : List EventId

-- a clock counts an event
abbrev pub IsCounted : Counts → EventId → Type 0
IsCounted c d = d.index < count_of c d.at

abbrev pub is_counted : Counts → EventId → Bool
is_counted c d = nat_lt d.index (count_of c d.at)

-- an access below others, with those of them that its clock counts
abbrev pub line_below : {Z : Type 0} → List EventId → Entry Z → Line
line_below above x = record { event = x.event; above = length above; behind = filter (is_counted x.clock.counts) above }

abbrev pub lines_below : {Z : Type 0} → List EventId → List (Entry Z) → List Line
lines_below above [] = []
lines_below above (x ∷ entries) = line_below above x ∷ lines_below (above ++ x.event ∷ []) entries

abbrev pub lines_of : {Z : Type 0} → List (Entry Z) → List Line
lines_of entries = lines_below [] entries

-- the accesses themselves
abbrev pub events_of : List Line → List EventId
events_of lines = map (λ l. l.event) lines

-- the events of an order that access the word, each with those above it that happen before it
pub record IsAlong (s : Streams) (w : Word) (order : List EventId) (lines : List Line) : Type 0 where
  pub events : AreThose (IsOn s w) order (events_of lines)
  pub above : (p : ℕ) (l : Line) → slice_get lines p ≡ Some l → l.above ≡ p
  pub behind : (p : ℕ) (l : Line) → slice_get lines p ≡ Some l → AreThose (λ d. HappensBefore s (memory_of w) d l.event) (take p (events_of lines)) l.behind

-- those of a lawful order of all grounded events
pub record IsHistory (s : Streams) (w : Word) (lines : List Line) : Type 0 where
  pub order : List EventId
  pub whole : IsWholeOrder s order
  pub along : IsAlong s w order lines

-- ---- the accesses that come

-- an event and its clock
abbrev pub entry_pair : {Z : Type 0} → Entry Z → EventId × Counts
entry_pair x = (x.event, x.clock.counts)

abbrev pub access_pair : ClockedAccess → EventId × Counts
access_pair x = (event_of x, x.clock)

-- entries are those of the accesses to the word, in their order
abbrev pub AreEntriesOf : {Z : Type 0} → Word → List ClockedAccess → List (Entry Z) → Type 0
AreEntriesOf w accesses entries = map entry_pair entries ≡ map access_pair (filter (λ x. same_word x.word w) accesses)

-- they are, and the shadows represent these accesses
abbrev pub IsKeptOf : {Z : Type 0} → Word → List ClockedAccess → List (Entry Z) → Kept → Type 0
IsKeptOf w accesses entries shadows = AreEntriesOf w accesses entries × StandsFor (accesses_to w accesses) shadows
