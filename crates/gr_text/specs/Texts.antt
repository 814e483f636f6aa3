-- What the lines of a text say: streams one after another, or the first line at fault.
-- Source: docs/FORMATS.md, "Text form" and "Faults".
use Rattle.std.specs.Prelude.{ℕ, ⊤, ◌≤◌, ◌+◌, ◌-◌, ◌==◌, nat_le, nat_lt, ◌||◌, length, if◌then◌else◌, List, [], ◌∷◌, ◌++◌, Option, Some, None, Result, Ok, Err}
use Rattle.gr_text.specs.Types.{MOST_RECORDS, Fault, Line, SitedLine, Header, Version, One, Place, Outside, Inside}
use Rattle.gr_model.specs.Prelude.{is_end}
use Rattle.gr_record.specs.declared.fault.Fault.TheVariants as faults
use Rattle.gr_text.specs.declared.line.Line.TheVariants as lines
use Rattle.gr_text.specs.LineReading.{sited_said}
use Rattle.gr_text.specs.LineText.{sited_text}
use Rattle.gr_record.specs.Prelude.{Sited, header_spelling, event_spelling, places}
use Rattle.gr_text.specs.Lines.{lines_of}

infixl 10 ◌>>=◌
abbrev pub ◌>>=◌ : {X Y : Type 0} → Result X Fault → (X → Result Y Fault) → Result Y Fault
(Ok x) >>= f = f x
(Err e) >>= f = Err e

-- ---- one header or record

abbrev pub header_line : Header → SitedLine
header_line h = record { line = lines.Header h; site = 0 }

abbrev pub record_line : Sited → SitedLine
record_line r = record { line = lines.Event r.event; site = r.site }

-- as bytes, a record in a stream of this version
abbrev pub bytes_at : Version → Line → ℕ → List ℕ
bytes_at v (lines.Header h) site = header_spelling h
bytes_at v (lines.Event e) site = event_spelling v (record { event = e; site = site })

abbrev pub line_bytes : Version → SitedLine → List ℕ
line_bytes v l = bytes_at v l.line l.site

-- a stream of this version has room for the names
abbrev pub HasRoom : Version → Line → Type 0
HasRoom v (lines.Header h) = ⊤
HasRoom v (lines.Event e) = length e.names ≤ places v

-- as a line with its line feed
abbrev pub whole_line : SitedLine → List ℕ
whole_line l = sited_text l ++ 10 ∷ []

-- ---- the line at a place

-- a record at line n of the stream of this header, which may have so many more, and the place after it
abbrev pub record_at : ℕ → Header → ℕ → Sited → Result (SitedLine × Place) Fault
record_at n h left r =
    if nat_le h.items r.event.item || nat_lt (places h.version) (length r.event.names) then Err (faults.BadLine n)
    else if left == 0 then Err (faults.LongStream n)
    else Ok (record_line r, if is_end r.event then Outside else Inside h (left - 1))

-- what line n says at a place, and the place after it: outside of streams a header is due, and in one a record
abbrev pub said_at : ℕ → Place → Line → ℕ → Result (SitedLine × Place) Fault
said_at n Outside (lines.Header h) site = Ok (record { line = lines.Header h; site = site }, Inside h MOST_RECORDS)
said_at n (Inside h left) (lines.Event e) site = record_at n h left (record { event = e; site = site })
said_at n _ _ site = Err (faults.BadLine n)

abbrev pub line_at : ℕ → Place → Option SitedLine → Result (SitedLine × Place) Fault
line_at n place None = Err (faults.BadLine n)
line_at n place (Some l) = said_at n place l.line l.site

-- ---- the lines from a place on

-- the version of the stream at a place; outside of streams a header is due, which says its own
abbrev pub version_at : Place → Version
version_at Outside = One
version_at (Inside h left) = h.version

-- after the last line, which no stream may need to be followed
abbrev pub over_at : Place → Result (List SitedLine) Fault
over_at Outside = Ok []
over_at (Inside h left) = Err faults.NoEnd

-- what the lines say, the first of which is line n
unfoldable pub said_from : ℕ → Place → List (List ℕ) → Result (List SitedLine) Fault
said_from n place [] = over_at place
said_from n place (l ∷ ls) = line_at n place (sited_said (version_at place) l) >>= λ x. said_from (n + 1) x.1 ls >>= λ xs. Ok (x.0 ∷ xs)

-- what a text says
abbrev pub said_in : List ℕ → Result (List SitedLine) Fault
said_in text = said_from 1 Outside (lines_of text)

-- the version of the stream after a line in one of this version
abbrev pub version_behind : Version → Line → Version
version_behind v (lines.Header h) = h.version
version_behind v (lines.Event e) = if is_end e then One else v

-- the bytes of lines, the first of which is in a stream of this version
abbrev pub lines_bytes : Version → List SitedLine → List ℕ
lines_bytes v [] = []
lines_bytes v (x ∷ xs) = line_bytes v x ++ lines_bytes (version_behind v x.line) xs

-- the bytes of the streams of a text
abbrev pub packed : List ℕ → Result (List ℕ) Fault
packed text = said_in text >>= λ xs. Ok (lines_bytes (version_at Outside) xs)
