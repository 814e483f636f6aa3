-- The laws between spelling and reading of whole prefixes: a header and records.
-- Source: docs/FORMATS.md, "Stream".
use Rattle.std.specs.Prelude.{◌≡◌, ℕ, ◌<◌, ◌≤◌, List, [], ◌∷◌, ◌++◌, length, drop, Option, Some, None, IsTrue, ⊤, if◌then◌else◌}
use Rattle.gr_record.specs.Types.{Event, RecordError, Header, Stop, Inside, AtEnd, AtFault, HEADER_LENGTH}
use Rattle.gr_model.specs.Prelude.{is_end, is_complete}
use Rattle.gr_record.specs.Spelling.{header_spelling, events_spelling, IsHeader, IsRecord}
use Rattle.gr_record.specs.Laws.{AreBytes}
use Rattle.gr_record.specs.Sites.{Sited, events_of, all_sited}
use Rattle.gr_record.specs.Decoding.{Reading, reading, parts_of, either_header, unit_length}

-- records that the stream of this header may have in this order: none but the last is an end
abbrev pub Runs : Header → List Sited → Type 0
Runs h [] = ⊤
Runs h (r ∷ rs) = IsRecord h r × (IsTrue (is_end r.event) → rs ≡ []) × Runs h rs

-- a header, and at most so many records of its stream
pub record IsPrefix (limit : ℕ) (h : Header) (records : List Sited) : Type 0 where
  pub header : IsHeader h
  pub runs : Runs h records
  pub few : length records ≤ limit

abbrev pub prefix_spelling : Option Header → List Sited → List ℕ
prefix_spelling None records = []
prefix_spelling (Some h) records = header_spelling h ++ events_spelling h.version records

abbrev pub PrefixIn : ℕ → Option Header → List Sited → Type 0
PrefixIn limit None records = records ≡ []
PrefixIn limit (Some h) records = IsPrefix limit h records

-- the records that were read of these bytes, with their sites
abbrev pub records_in : Option Header → List Event → List ℕ → List Sited
records_in None events bytes = []
records_in (Some h) events bytes = all_sited h.version events (drop HEADER_LENGTH bytes)

-- what is read is a prefix, the bytes are its spelling with the sites that it has and the rest, and reading stops after an end, before bytes that are no whole header or record, or at a fault
pub record IsReadingOf (limit : ℕ) (bytes : List ℕ) (r : Reading) : Type 0 where
  pub events : events_of (records_in r.header r.events bytes) ≡ r.events
  pub parts : bytes ≡ prefix_spelling r.header (records_in r.header r.events bytes) ++ r.rest
  pub prefix : PrefixIn limit r.header (records_in r.header r.events bytes)
  pub ended : r.stop ≡ AtEnd → IsTrue (is_complete r.events) × (r.rest ≡ [])
  pub short : r.stop ≡ Inside → length r.rest < unit_length (either_header r.header None)

-- what is read of bytes is spelled so
abbrev pub ReadPrefixIsSpelled : Type 0
ReadPrefixIsSpelled = (limit : ℕ) (bytes : List ℕ) → AreBytes bytes → IsReadingOf limit bytes (reading limit bytes)

-- reading stops after records of which the last is an end, and waits for more after others
abbrev pub stop_after : List Event → Stop
stop_after events = if is_complete events then AtEnd else Inside

-- what is spelled is read, with its sites
abbrev pub SpelledPrefixIsRead : Type 0
SpelledPrefixIsRead = (limit : ℕ) (h : Header) (records : List Sited) → IsPrefix limit h records
    → (reading limit (prefix_spelling (Some h) records) ≡ record { header = Some h; events = events_of records; rest = []; stop = stop_after (events_of records) })
    × (records_in (Some h) (events_of records) (prefix_spelling (Some h) records) ≡ records)

-- a fault stays the fault, and no part comes after it
abbrev pub FaultStays : Type 0
FaultStays = (limit : ℕ) (bytes more : List ℕ) (e : RecordError) → (reading limit bytes).stop ≡ AtFault e → ((reading limit (bytes ++ more)).stop ≡ AtFault e) × (parts_of (reading limit (bytes ++ more)) ≡ parts_of (reading limit bytes))
