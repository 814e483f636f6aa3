-- The bytes of whole streams are dumped and their text is packed; and what is packed is dumped again, what is dumped packed again.
use Rattle.gr_model.proofs.Common.{◌≡◌, ℕ, zero, suc, ◌+◌, ◌≤◌, false, List, [], ◌∷◌, ◌++◌, length, All, Ok, refl, sym, ap, ◌∙◌, append_assoc, arith, IsTrue, true≢false, ◌-◌, ◌^◌, ◌<◌, map, length-append, flat_map, le-ltb, ne_eqb, nat_tests, and_parts, ltb-true, lt-leb, All-append, All-cons, All-head, All-nil, All-tail}
use Rattle.gr_text.specs.Prelude.{Event, MOST_ITEMS_OF_A_GROUP, MOST_RECORDS, Header, WholeStream, stream_at, streams_at, dumped, parts_in, IsWhole, bytes_of, text_of, WholeStreamsAreDumped, PackedIsDumpedAgain, WholeStreamsArePacked, DumpedIsPackedAgain, One, Four, SitedLine, IsSaid, sited_text, Outside, Inside, lines_of, header_line, record_line, whole_line, packed, said_from}
use Rattle.gr_model.specs.Prelude.{is_complete}
use Rattle.gr_record.specs.Prelude.{record_length, most_items, places, Runs, event_at, IsHeader, events_spelling, header_spelling, IsEvent, front_header_at, front_records_at, stream_spelling, Sited, events_of}
use Rattle.gr_record.proofs.FoundPrefixes.{complete_behind}
use Rattle.gr_record.proofs.Growing.{records_grow}
use Rattle.gr_record.proofs.Places.{header_items, each_in_range}
use Rattle.gr_record.proofs.SpelledPrefixes.{records_spelled, sites_spelled}
use Rattle.gr_record.proofs.Spelled.{spelled_header_is_read}
use Rattle.gr_text.proofs.PackedStreams.{packed_are_streams, streams_bytes}
use Rattle.gr_text.proofs.Streaming.{streams_text, nothing_left, dumped_are_streams}
use Rattle.gr_text.proofs.LineSites.{AreAbove, sited_above, sited_text_is_read}

pub events_before : (h : Header) → h.items ≤ MOST_ITEMS_OF_A_GROUP → (rs : List Sited) (rest : List ℕ) → Runs h rs → IsTrue (is_complete (events_of rs)) → length rs ≤ MOST_RECORDS
    → front_records_at h (events_spelling h.version rs ++ rest) ≡ Ok (events_of rs, rest)
unfolding front_records_at
events_before h few rs rest runs complete le =
    let all = rw (records_spelled h few rs MOST_RECORDS runs le, complete) at (records_grow (record_length h.version) (event_at h) rest MOST_RECORDS (events_spelling h.version rs)) in
    rw all refl

pub header_before : (h : Header) (rest : List ℕ) → IsHeader h → front_header_at (header_spelling h ++ rest) ≡ Ok (h, rest)
unfolding front_header_at
header_before h rest ok = grind (arith, nat_tests, spelled_header_is_read h rest ok)

stream_before : (place : ℕ) (s : WholeStream) (rest : List ℕ) → IsWhole s → stream_at place (stream_spelling s.header s.records ++ rest) ≡ Ok (s, rest)
unfolding stream_at
stream_before place s rest whole =
    let prefix = whole.prefix in
    let items = header_items s.header prefix.header in
    let records = events_before s.header items s.records rest prefix.runs whole.ended prefix.few in
    let sites = sites_spelled s.header items s.records rest prefix.runs in
    rw (append_assoc (header_spelling s.header) (events_spelling s.header.version s.records) rest, header_before s.header (events_spelling s.header.version s.records ++ rest) prefix.header, records, sites) refl

pub streams_before : (ss : List WholeStream) (most place : ℕ) → All IsWhole ss → length (bytes_of ss) ≤ most → streams_at most place (bytes_of ss) ≡ Ok ss
unfolding streams_at
streams_before [] most place whole le = nothing_left most place [] refl
streams_before (s ∷ ss) zero place whole le = absurd (omega arith)
streams_before (s ∷ ss) (suc most) place whole le =
    let one = stream_before place s (bytes_of ss) (All-head IsWhole s ss whole) in
    let shorter : length (bytes_of ss) ≤ most = omega (arith, length-append (stream_spelling s.header s.records) (bytes_of ss)) in
    let ih = streams_before ss most (place + 1) (All-tail IsWhole s ss whole) shorter in
    grind (arith, one, ih)

pub whole_streams_are_dumped : WholeStreamsAreDumped
whole_streams_are_dumped ss whole = let all = streams_before ss (length (bytes_of ss)) 0 whole (omega arith) in rw all (ap (λ (v : List ℕ). Ok v) (streams_text ss))

pub packed_is_dumped_again : PackedIsDumpedAgain
packed_is_dumped_again text bytes e =
    let s = packed_are_streams text bytes e in
    (text_of s.0, ap dumped s.3 ∙ whole_streams_are_dumped s.0 s.1, s.2)

-- ---- the lines of a text

line_before : (l rest : List ℕ) → AreAbove l → lines_of ((l ++ 10 ∷ []) ++ rest) ≡ l ∷ lines_of rest
unfolding lines_of
line_before [] rest h = refl
line_before (b ∷ l) rest h =
    let p = and_parts _ _ h in
    rw (ne_eqb b 10 (λ e. absurd (omega (arith, ltb-true 10 b p.0))), line_before l rest p.1) refl

-- a line of some stream
abbrev IsOfSome : SitedLine → Type 0
IsOfSome x = IsSaid Four x.line × (x.site < 2 ^ 16)

lines_back : (xs : List SitedLine) → All IsOfSome xs → lines_of (flat_map whole_line xs) ≡ map sited_text xs
unfolding lines_of
lines_back [] h = refl
lines_back (x ∷ xs) h =
    let said = All-head IsOfSome x xs h in
    line_before (sited_text x) (flat_map whole_line xs) (sited_above Four x said.0 said.1) ∙ ap (λ (v : List (List ℕ)). sited_text x ∷ v) (lines_back xs (All-tail IsOfSome x xs h))

event_said : (items most : ℕ) (e : Event) → items ≤ most → IsEvent items e → IsEvent most e
event_said items most e few ok = record { ok = (omega (arith, ok.ok.0), ok.ok.1, ok.ok.2); word = ok.word }

records_said : (h : Header) (rs : List Sited) → h.items ≤ MOST_ITEMS_OF_A_GROUP → Runs h rs → All IsOfSome (map record_line rs)
records_said h [] few runs = All-nil IsOfSome
records_said h (r ∷ rs) few runs =
    let ok = runs.0.event in
    All-cons IsOfSome (record_line r) (map record_line rs)
    ((event_said h.items MOST_ITEMS_OF_A_GROUP r.event few ok, each_in_range r.event.kind r.event.names ok.ok.1), runs.0.site.0)
    (records_said h rs few runs.2)

streams_said : (ss : List WholeStream) → All IsWhole ss → All IsOfSome (flat_map parts_in ss)
streams_said [] whole = All-nil IsOfSome
streams_said (s ∷ ss) whole =
    let w = All-head IsWhole s ss whole in
    let records = records_said s.header s.records (header_items s.header w.prefix.header) w.prefix.runs in
    All-append IsOfSome (parts_in s) (flat_map parts_in ss) (All-cons IsOfSome _ _ (w.prefix.header, omega arith) records) (streams_said ss (All-tail IsWhole s ss whole))

-- ---- line by line

records_back : (rs : List Sited) (n : ℕ) (h : Header) (left : ℕ) (rest : List SitedLine) → h.items ≤ most_items h.version → Runs h rs → IsTrue (is_complete (events_of rs)) → length rs ≤ left → ((m : ℕ) → said_from m Outside (map sited_text rest) ≡ Ok rest)
    → said_from n (Inside h left) (map sited_text (map record_line rs ++ rest)) ≡ Ok (map record_line rs ++ rest)
unfolding said_from
records_back [] n h left rest few runs complete le behind = absurd (true≢false (sym complete))
records_back (r ∷ rs) n h left rest few runs complete le behind =
    let e = r.event in
    let read = sited_text_is_read h.version (record_line r) ((event_said h.items (most_items h.version) e few runs.0.event, runs.0.range), runs.0.site) in
    let there = lt-leb h.items e.item runs.0.event.ok.0 in
    let room = le-ltb (places h.version) (length e.names) runs.0.names in
    let some = ne_eqb left 0 (λ none. absurd (omega arith)) in
    let ih = λ (on : IsTrue (is_complete (events_of rs))). records_back rs (n + 1) h (left - 1) rest few runs.2 on (omega arith) behind in
    grind (arith, read, there, room, some, complete_behind e (events_of rs), runs.1, ih, behind (n + 1))

streams_back : (ss : List WholeStream) (n : ℕ) → All IsWhole ss → said_from n Outside (map sited_text (flat_map parts_in ss)) ≡ Ok (flat_map parts_in ss)
unfolding said_from
streams_back [] n whole = refl
streams_back (s ∷ ss) n whole =
    let w = All-head IsWhole s ss whole in
    let read = sited_text_is_read One (header_line s.header) (w.prefix.header, refl) in
    let later = records_back s.records (n + 1) s.header MOST_RECORDS (flat_map parts_in ss) w.prefix.header.items w.prefix.runs w.ended w.prefix.few (λ m. streams_back ss m (All-tail IsWhole s ss whole)) in
    rw (read, later) refl

pub whole_streams_are_packed : WholeStreamsArePacked
whole_streams_are_packed ss whole =
    rw (lines_back (flat_map parts_in ss) (streams_said ss whole), streams_back ss 1 whole) (ap (λ (v : List ℕ). Ok v) (streams_bytes ss whole))

pub dumped_is_packed_again : DumpedIsPackedAgain
dumped_is_packed_again bytes text fits e =
    let s = dumped_are_streams bytes text fits e in
    ap packed s.3 ∙ whole_streams_are_packed s.0 s.1 ∙ ap (λ (v : List ℕ). Ok v) (sym s.2)
