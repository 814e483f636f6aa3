-- The laws between spelling and reading.
-- Source: docs/FORMATS.md, "Stream".
use Rattle.std.specs.Prelude.{◌≡◌, ℕ, ◌<◌, ◌≤◌, List, ◌++◌, length, take, slice_index, Ok}
use Rattle.gr_record.specs.Types.{Event, MOST_ITEMS_OF_A_GROUP, Header, HEADER_LENGTH}
use Rattle.gr_record.specs.Versions.{record_length}
use Rattle.gr_record.specs.Spelling.{header_spelling, event_spelling, IsHeader, IsRecord}
use Rattle.gr_record.specs.Reading.{header_at, event_at, site_at}
use Rattle.gr_record.specs.Sites.{Sited, sited}

abbrev pub AreBytes : List ℕ → Type 0
AreBytes bytes = (i : ℕ) → slice_index bytes i < 256

-- what is spelled is read again, whatever follows it, and so is its site
abbrev pub SpelledIsRead : Type 0
SpelledIsRead = (h : Header) (r : Sited) (rest : List ℕ) → h.items ≤ MOST_ITEMS_OF_A_GROUP → IsRecord h r → (event_at h (event_spelling h.version r ++ rest) ≡ Ok r.event) × (site_at h.version (event_spelling h.version r ++ rest) ≡ r.site)

abbrev pub SpelledHeaderIsRead : Type 0
SpelledHeaderIsRead = (h : Header) (rest : List ℕ) → IsHeader h → header_at (header_spelling h ++ rest) ≡ Ok h

-- what is read is in range, and is spelled so with the site that it has
abbrev pub ReadIsSpelled : Type 0
ReadIsSpelled = (h : Header) (e : Event) (bytes : List ℕ) → AreBytes bytes → record_length h.version ≤ length bytes → event_at h bytes ≡ Ok e → (take (record_length h.version) bytes ≡ event_spelling h.version (sited h.version e bytes)) × IsRecord h (sited h.version e bytes)

abbrev pub ReadHeaderIsSpelled : Type 0
ReadHeaderIsSpelled = (h : Header) (bytes : List ℕ) → AreBytes bytes → HEADER_LENGTH ≤ length bytes → header_at bytes ≡ Ok h → (take HEADER_LENGTH bytes ≡ header_spelling h) × IsHeader h

-- no spelling of a record begins another of its version
abbrev pub NoSpellingBeginsAnother : Type 0
NoSpellingBeginsAnother = (h : Header) (a b : Sited) (x y : List ℕ) → h.items ≤ MOST_ITEMS_OF_A_GROUP → IsRecord h a → IsRecord h b → event_spelling h.version a ++ x ≡ event_spelling h.version b ++ y → (a ≡ b) × (x ≡ y)
