-- A text that is packed is one of whole streams.
use Rattle.gr_model.proofs.Common.{◌≡◌, ◌⊎◌, ℕ, ◌+◌, ◌-◌, ◌<◌, ◌≤◌, Bool, true, false, cond, List, [], ◌∷◌, ◌++◌, length, map, All, Option, Some, None, Ok, refl, sym, ap, ap₂, subst, ◌∙◌, arith, inl, inr, IsTrue, true≢false, append_assoc, append-nil, onto_first, both_ways, All-cons, All-head, All-tail, flat_map-map, nat_tests}
use Rattle.std.specs.List.{flat_map}
use Rattle.gr_text.specs.Prelude.{MOST_RECORDS, Header, Line, One, SitedLine, IsSitedSaid, sited_said, sited_text, Place, Outside, Inside, lines_of, record_line, version_at, lines_bytes, whole_line, said_at, line_at, said_from, said_in, WholeStream, parts_in, IsWhole, bytes_of, text_of, PackedAreStreams}
use Rattle.gr_model.specs.Prelude.{is_end, is_complete}
use Rattle.gr_text.specs.declared.line.Line.TheVariants as lines
use Rattle.gr_record.specs.Prelude.{places, Runs, Sited, events_of, IsRecord, events_spelling}
use Rattle.gr_record.proofs.FoundPrefixes.{complete_behind}
use Rattle.gr_text.proofs.LineSites.{sited_read_is_text}
use Rattle.gr_text.specs.Texts.{◌>>=◌}
use Rattle.gr_text.proofs.Steps.{bind_ok, map_ok, line_at_ok, record_at_ok}

-- ---- a text from its lines

abbrev ended : List ℕ → List ℕ
ended l = l ++ 10 ∷ []

abbrev Joins : List ℕ → List (List ℕ) → Type 0
Joins text ls = (text ≡ flat_map ended ls) ⊎ (text ++ 10 ∷ [] ≡ flat_map ended ls)

joins_first : (b : ℕ) (bytes : List ℕ) (ls : List (List ℕ)) → Joins bytes ls → Joins (b ∷ bytes) (onto_first b ls)
joins_first b [] [] h = inr refl
joins_first b (c ∷ bytes) [] (inl h) = absurd cc
joins_first b (c ∷ bytes) [] (inr h) = absurd cc
joins_first b bytes (l ∷ ls) h = grind arith

joins_lines : (text : List ℕ) → Joins text (lines_of text)
unfolding lines_of
joins_lines [] = inl refl
joins_lines (b ∷ bytes) = let ih = joins_lines bytes in grind (arith, nat_tests, joins_first)

-- ---- what may follow a place

-- the rest of a stream of so many items that may have so many records more, and whole streams after it
record Rest (h : Header) (left : ℕ) (xs : List SitedLine) : Type 0 where
  records : List Sited
  streams : List WholeStream
  runs : Runs h records
  few : length records ≤ left
  complete : IsTrue (is_complete (events_of records))
  whole : All IsWhole streams
  parts : xs ≡ map record_line records ++ flat_map parts_in streams

record Streams (xs : List SitedLine) : Type 0 where
  streams : List WholeStream
  whole : All IsWhole streams
  parts : xs ≡ flat_map parts_in streams

abbrev Follow : Place → List SitedLine → Type 0
Follow Outside xs = Streams xs
Follow (Inside h left) xs = Rest h left xs

-- ---- line by line

is_record : (h : Header) (r : Sited) → r.event.item < h.items → length r.event.names ≤ places h.version → IsSitedSaid h.version (record_line r) → IsRecord h r
is_record h r lt room said = record { event = record { ok = (lt, said.0.0.ok.1, said.0.0.ok.2); word = said.0.0.word }; names = room; range = said.0.1; site = said.1 }

-- what follows the place after a line follows the place, after that line
follows : (n : ℕ) (place : Place) (said : Option SitedLine) (x : SitedLine × Place) → line_at n place said ≡ Ok x → IsSitedSaid (version_at place) x.0 → (xs : List SitedLine) → Follow x.1 xs → Follow place (x.0 ∷ xs)
follows n place None x k = absurd cc
follows n place (Some l) x k = by_place place l.line l.site k
  where
    by_place : (place : Place) (line : Line) (site : ℕ) → said_at n place line site ≡ Ok x → IsSitedSaid (version_at place) x.0 → (xs : List SitedLine) → Follow x.1 xs → Follow place (x.0 ∷ xs)
    by_place Outside (lines.Header h) site k =
        let same : x ≡ (record { line = lines.Header h; site = site }, Inside h MOST_RECORDS) = cc k in
        rw same (λ ok xs r.
        let s : WholeStream = record { header = h; records = r.records } in
        record {
          streams = s ∷ r.streams;
          whole = All-cons IsWhole s r.streams (record { prefix = record { header = ok.0; runs = r.runs; few = r.few }; ended = r.complete }) r.whole;
          parts = ap₂ (λ (n : ℕ) (v : List SitedLine). record { line = lines.Header h; site = n } ∷ v) ok.1 r.parts;
        })
    by_place Outside (lines.Event e) site k = absurd cc
    by_place (Inside h left) (lines.Header g) site k = absurd cc
    by_place (Inside h left) (lines.Event e) site k = let o = record_at_ok n h left (record { event = e; site = site }) x k in rw o.3 (by_end (is_end e) refl o.0 o.1 o.2)
      where
        r : Sited
        r = record { event = e; site = site }

        by_end : (b : Bool) → is_end e ≡ b → e.item < h.items → length e.names ≤ places h.version → 1 ≤ left → IsSitedSaid h.version (record_line r) → (xs : List SitedLine) → Follow (cond b Outside (Inside h (left - 1))) xs → Follow (Inside h left) (record_line r ∷ xs)
        by_end true end lt room some said xs s = record {
          records = r ∷ [];
          streams = s.streams;
          runs = (is_record h r lt room said, λ _. refl, tt);
          few = omega arith;
          complete = end;
          whole = s.whole;
          parts = ap (λ (v : List SitedLine). record_line r ∷ v) s.parts;
        }
        by_end false on lt room some said xs s = record {
          records = r ∷ s.records;
          streams = s.streams;
          runs = (is_record h r lt room said, λ end. absurd (both_ways (is_end e) on end), s.runs);
          few = omega (arith, s.few);
          complete = complete_behind e (events_of s.records) on ∙ s.complete;
          whole = s.whole;
          parts = ap (λ (v : List SitedLine). record_line r ∷ v) s.parts;
        }

record Said (place : Place) (ls : List (List ℕ)) (xs : List SitedLine) : Type 0 where
  text : ls ≡ map sited_text xs
  follow : Follow place xs

said_found : (ls : List (List ℕ)) (n : ℕ) (place : Place) (xs : List SitedLine) → said_from n place ls ≡ Ok xs → Said place ls xs
unfolding said_from
said_found [] n place xs k = grind arith
said_found (l ∷ ls) n place xs k =
    let x = bind_ok (line_at n place (sited_said (version_at place) l)) (λ x. said_from (n + 1) x.1 ls >>= λ ys. Ok (x.0 ∷ ys)) xs k in
    let rest = map_ok (said_from (n + 1) x.0.1 ls) (λ ys. x.0.0 ∷ ys) xs x.2 in
    let more = said_found ls (n + 1) x.0.1 rest.0 rest.1 in
    let t = sited_read_is_text (version_at place) l x.0.0 (line_at_ok n place (sited_said (version_at place) l) x.0 x.1).0 in
    subst (Said place (l ∷ ls)) rest.2 (record { text = ap₂ (λ (a : List ℕ) (b : List (List ℕ)). a ∷ b) t.1 more.text; follow = follows n place (sited_said (version_at place) l) x.0 x.1 t.0 rest.0 more.follow })

-- ---- bytes

-- the records of a whole stream, and lines after it
records_bytes : (h : Header) (rs : List Sited) (xs : List SitedLine) → Runs h rs → IsTrue (is_complete (events_of rs)) → lines_bytes h.version (map record_line rs ++ xs) ≡ events_spelling h.version rs ++ lines_bytes One xs
records_bytes h [] xs runs complete = absurd (true≢false (sym complete))
records_bytes h (r ∷ rs) xs runs complete =
    let ih = records_bytes h rs xs runs.2 in
    grind (arith, append_assoc, append-nil, complete_behind r.event (events_of rs), runs.1, ih)

pub streams_bytes : (ss : List WholeStream) → All IsWhole ss → lines_bytes One (flat_map parts_in ss) ≡ bytes_of ss
streams_bytes [] whole = refl
streams_bytes (s ∷ ss) whole =
    let w = All-head IsWhole s ss whole in
    let rest = streams_bytes ss (All-tail IsWhole s ss whole) in
    grind (arith, append_assoc, records_bytes s.header s.records (flat_map parts_in ss) w.prefix.runs w.ended, rest)

pub packed_are_streams : PackedAreStreams
packed_are_streams text bytes e =
    let x = map_ok (said_in text) _ bytes e in
    let s = said_found (lines_of text) 1 Outside x.0 x.1 in
    let f = s.follow in
    let lines_are : flat_map ended (lines_of text) ≡ text_of f.streams = ap (flat_map ended) s.text ∙ flat_map-map ended sited_text x.0 ∙ ap (flat_map whole_line) f.parts in
    (f.streams, f.whole, rw (← lines_are) (joins_lines text), sym x.2 ∙ ap (lines_bytes One) f.parts ∙ streams_bytes f.streams f.whole)
