-- The streams in a list of bytes, one after another, as a loop reads them.
use Rattle.gr_model.proofs.Common.{◌≡◌, ℕ, zero, suc, ◌+◌, ◌<◌, ◌≤◌, true, false, List, [], ◌∷◌, ◌++◌, length, drop, Ok, refl, sym, ap, ap₂, subst, ◌∙◌, append_assoc, arith, inl, inr, IsTrue, IfOk, All, nat_lt, ◌==◌, flat_map, ltb-false, cases_Bool, eqb-true, append-nil, get_or-append-add, take-append-drop, length-append, nil_from_length, All-cons, All-nil, flat_map-map}
use Rattle.gr_text.specs.Prelude.{Event, MOST_RECORDS, Header, HEADER_LENGTH, header_line, record_line, whole_line, WholeStream, stream_at, streams_at, formed, parts_in, Text, IsWhole, bytes_of, text_of, DumpedAreStreams}
use Rattle.gr_model.specs.Prelude.{is_complete}
use Rattle.gr_record.specs.Prelude.{records_of, Runs, AreBytes, header_at, all_sited, IsHeader, header_spelling, events_spelling, front_header_at, front_records_at, stream_spelling}
use Rattle.gr_record.proofs.Found.{read_header_is_spelled}
use Rattle.gr_record.proofs.FoundPrefixes.{records_found, events_sited}
use Rattle.gr_record.proofs.Numbers.{one_left}
use Rattle.gr_record.proofs.Places.{bytes_drop}
use Rattle.gr_text.proofs.Steps.{bind_ok, map_ok, each_ok, no_more}
use Rattle.std.proofs.lemmas.List.Concat.{flat_map-append}

-- ---- what is read is spelled so

bytes_behind : (xs ys : List ℕ) → AreBytes (xs ++ ys) → AreBytes ys
bytes_behind xs ys fits i = rw (get_or-append-add xs ys i 0) at (fits (length xs + i))

pub record HeaderFound (bytes : List ℕ) (h : Header) (rest : List ℕ) : Type 0 where
  pub parts : bytes ≡ header_spelling h ++ rest
  pub header : IsHeader h
  pub fits : AreBytes rest

pub header_found : (bytes : List ℕ) → AreBytes bytes → (h : Header) (rest : List ℕ) → front_header_at bytes ≡ Ok (h, rest) → HeaderFound bytes h rest
unfolding front_header_at
header_found bytes fits h rest e =
    let is : (nat_lt (length bytes) HEADER_LENGTH ≡ false) × (header_at bytes ≡ Ok h) × (drop HEADER_LENGTH bytes ≡ rest) = grind arith in
    let s = read_header_is_spelled h bytes fits (ltb-false (length bytes) HEADER_LENGTH is.0) is.1 in
    rw (← is.2) (record { parts = sym (take-append-drop HEADER_LENGTH bytes) ∙ ap (λ (v : List ℕ). v ++ drop HEADER_LENGTH bytes) s.0; header = s.1; fits = bytes_drop HEADER_LENGTH bytes fits })

pub record RecordsFound (h : Header) (bytes : List ℕ) (events : List Event) (rest : List ℕ) : Type 0 where
  pub parts : bytes ≡ events_spelling h.version (all_sited h.version events bytes) ++ rest
  pub runs : Runs h (all_sited h.version events bytes)
  pub few : length (all_sited h.version events bytes) ≤ MOST_RECORDS
  pub ended : IsTrue (is_complete events)
  pub fits : AreBytes rest

pub events_found : (h : Header) (bytes : List ℕ) → AreBytes bytes → (events : List Event) (rest : List ℕ) → front_records_at h bytes ≡ Ok (events, rest) → RecordsFound h bytes events rest
unfolding front_records_at
events_found h bytes fits events rest e =
    let f = records_found h MOST_RECORDS bytes fits in
    let behind : AreBytes (records_of h MOST_RECORDS bytes).rest = bytes_behind _ _ (subst AreBytes f.parts fits) in
    grind (arith, f.parts, f.runs, f.few, f.complete, behind)

pub nothing_left : (most place : ℕ) (bytes : List ℕ) → (length bytes == 0) ≡ true → streams_at most place bytes ≡ Ok []
unfolding streams_at
nothing_left zero place bytes e = refl
nothing_left (suc most) place bytes e = rw e refl

-- what a loop over streams needs of each
pub ruleset stream_steps = (one_left, no_more, nothing_left, append-nil, append_assoc, flat_map-append, flat_map-map)

abbrev pub Found : Type 0
Found = WholeStream × List ℕ

-- ---- one whole stream

pub record StreamFound (bytes : List ℕ) (x : Found) : Type 0 where
  pub whole : IsWhole x.0
  pub spelled : bytes ≡ stream_spelling x.0.header x.0.records ++ x.1
  pub fits : AreBytes x.1
  pub shorter : length x.1 < length bytes

pub stream_found : (place : ℕ) (bytes : List ℕ) → AreBytes bytes → (x : Found) → stream_at place bytes ≡ Ok x → StreamFound bytes x
unfolding stream_at
stream_found place bytes fits x e =
    let head : IfOk (front_header_at bytes) (λ y. HeaderFound bytes y.0 y.1) = each_ok _ _ (λ y is. header_found bytes fits y.0 y.1 is) in
    let records = λ (h : Header) (mid : List ℕ) (found : HeaderFound bytes h mid). each_ok (front_records_at h mid) (λ y. RecordsFound h mid y.0 y.1) (λ y is. events_found h mid found.fits y.0 y.1 is) in
    grind (arith, head, records, events_sited, append_assoc, length-append)

-- ---- all whole streams

pub record StreamsFound (bytes : List ℕ) (ss : List WholeStream) : Type 0 where
  pub whole : All IsWhole ss
  pub spelled : bytes ≡ bytes_of ss

nothing : (bytes : List ℕ) (xs : List WholeStream) → length bytes ≡ 0 → [] ≡ xs → StreamsFound bytes xs
nothing bytes xs empty none = subst (StreamsFound bytes) none (record { whole = All-nil IsWhole; spelled = nil_from_length bytes empty })

pub streams_found : (most place : ℕ) (bytes : List ℕ) → AreBytes bytes → length bytes ≤ most → (xs : List WholeStream) → streams_at most place bytes ≡ Ok xs → StreamsFound bytes xs
unfolding streams_at
streams_found zero place bytes fits le xs e = nothing bytes xs (omega arith) (cc e)
streams_found (suc most) place bytes fits le xs e =
    elim (cases_Bool (length bytes == 0)) [
      | inl empty ↦ nothing bytes xs (eqb-true (length bytes) 0 empty) (cc (rw empty at e))
      | inr some ↦
          let s = bind_ok {X = Found} _ _ xs (rw some at e) in
          let one = stream_found place bytes fits s.0 s.1 in
          let rest = map_ok _ _ xs s.2 in
          let more = streams_found most (place + 1) s.0.1 one.fits (omega (arith, one.shorter)) rest.0 rest.1 in
          subst (StreamsFound bytes) rest.2 (record {
            whole = All-cons IsWhole s.0.0 rest.0 one.whole more.whole;
            spelled = one.spelled ∙ ap (λ (v : List ℕ). stream_spelling s.0.0.header s.0.0.records ++ v) more.spelled;
          })
    ]

-- ---- their text

pub streams_text : (ss : List WholeStream) → flat_map (formed Text) ss ≡ text_of ss
streams_text [] = refl
streams_text (s ∷ ss) =
    ap₂ (λ (a b : List ℕ). whole_line (header_line s.header) ++ a ++ b) (sym (flat_map-map whole_line record_line s.records)) (streams_text ss) ∙ sym (flat_map-append whole_line (parts_in s) (flat_map parts_in ss))

pub dumped_are_streams : DumpedAreStreams
dumped_are_streams bytes text fits e =
    let s = map_ok _ _ text e in
    let f = streams_found (length bytes) 0 bytes fits (omega arith) s.0 s.1 in
    (s.0, f.whole, f.spelled, sym s.2 ∙ streams_text s.0)
