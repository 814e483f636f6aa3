-- What bytes have before their first fault, as loops find it, and that their text is the text of that.
use Rattle.gr_model.proofs.Common.{◌≡◌, ℕ, suc, ◌+◌, List, [], ◌++◌, length, map, Ok, Err, refl, sym, ap, ◌∙◌, append_assoc, arith, inl, inr, ◌⊎◌, zero, ◌∷◌, subst, flat_map, ◌==◌, cases_Bool, append-nil, nil_from_length, All-cons, All-nil}
use Rattle.std.proofs.lemmas.List.Concat.{flat_map-append}
use Rattle.gr_text.specs.Prelude.{MOST_RECORDS, RecordError, Header, WholeStream, parts_in, stream_at, streams_at, streams_in, header_line, record_line, whole_line, front_at, lines_before, text_before_fault, WholeStreamsStandWhole, IsRefusedAtHeader, IsRefusedBehind, StandsBefore, RefusedIsToldUpToItsFault, IsWhole, bytes_of}
use Rattle.gr_record.specs.Prelude.{Records, records_of, AreBytes, events_spelling, header_spelling, all_sited, Sited, front_header_at, front_records_at, stream_spelling}
use Rattle.gr_text.specs.Texts.{◌>>=◌}
use Rattle.gr_record.specs.declared.fault.Fault.TheVariants as faults
use Rattle.gr_record.proofs.FoundPrefixes.{events_sited, records_found}
use Rattle.gr_model.specs.Prelude.{is_complete}
use Rattle.gr_text.proofs.Streaming.{Found, stream_found, streams_text, header_found}
use Rattle.gr_text.proofs.Steps.{bind_err, map_err, map_ok, up_to_err}

-- ---- what comes before the fault of one stream

-- a stream without a fault is whole, and the bytes after its end are left
stands_whole : (most place : ℕ) (bytes : List ℕ) (x : Found) → stream_at place bytes ≡ Ok x → lines_before (suc most) bytes ≡ parts_in x.0 ++ lines_before most x.1
unfolding lines_before stream_at front_records_at
stands_whole most place bytes x e = grind arith

-- of a refused stream nothing is left after
nothing_behind : (most place : ℕ) (bytes : List ℕ) (p : ℕ) (e : RecordError) → stream_at place bytes ≡ Err (faults.Stream p e) → (place ≡ p) × (lines_before (suc most) bytes ≡ (front_at bytes).lines)
unfolding lines_before stream_at front_records_at
nothing_behind most place bytes p e k = grind (arith, append-nil)

module _ (place : ℕ) (bytes : List ℕ) (fits : AreBytes bytes) (p : ℕ) (e : RecordError) where
  module _ (h : Header) (mid : List ℕ) (head : front_header_at bytes ≡ Ok (h, mid)) where
    abbrev taken : Records
    taken = records_of h MOST_RECORDS mid

    abbrev told : List Sited
    told = all_sited h.version taken.events mid

    refused_behind : front_records_at h mid ≡ Err e → IsRefusedBehind e bytes (header_line h ∷ map record_line told)
    unfolding front_records_at
    refused_behind refused =
        let hf = header_found bytes fits h mid head in
        let rf = records_found h MOST_RECORDS mid hf.fits in
        record {
          stream = record { header = h; records = told };
          prefix = record { header = hf.header; runs = rf.runs; few = rf.few };
          unended = ap is_complete (events_sited h.version taken.events mid) ∙ rf.complete ∙ (up_to_err taken.stop taken.events taken.rest e refused).0;
          left = taken.rest;
          parts = hf.parts ∙ ap (λ (v : List ℕ). header_spelling h ++ v) rf.parts ∙ sym (append_assoc (header_spelling h) (events_spelling h.version told) taken.rest);
          refused = ap (front_records_at h) (sym rf.parts) ∙ refused;
          lines = refl;
        }

  stands_refused : stream_at place bytes ≡ Err (faults.Stream p e) → IsRefusedAtHeader e bytes (front_at bytes).lines ⊎ IsRefusedBehind e bytes (front_at bytes).lines
  unfolding stream_at
  stands_refused k = grind (arith, refused_behind)

-- ---- and of all streams

all_stand : (most place : ℕ) (bytes : List ℕ) (xs : List WholeStream) → streams_at most place bytes ≡ Ok xs → lines_before most bytes ≡ flat_map parts_in xs
unfolding streams_at lines_before front_header_at stream_at front_records_at
all_stand zero place bytes xs e = grind arith
all_stand (suc most) place bytes xs e = let ih = all_stand most (place + 1) in grind (arith, nil_from_length, ih)

-- the text of bytes whose first stream has this place
abbrev StandsFrom : ℕ → ℕ → RecordError → ℕ → List ℕ → Type 0
StandsFrom place p e most bytes = (k : ℕ) × (place + k ≡ p) × StandsBefore k e bytes (flat_map whole_line (lines_before most bytes))

stands_at : (p : ℕ) (e : RecordError) (most place : ℕ) (bytes : List ℕ) → AreBytes bytes → streams_at most place bytes ≡ Err (faults.Stream p e) → StandsFrom place p e most bytes
unfolding streams_at
stands_at p e zero place bytes fits k = absurd cc
stands_at p e (suc most) place bytes fits k =
    elim (cases_Bool (length bytes == 0)) [
      | inl empty ↦ let never = rw empty at k in absurd cc
      | inr some ↦ by_stream (bind_err (stream_at place bytes) _ (faults.Stream p e) (rw some at k)) (λ rest fits_rest c. stands_at p e most (place + 1) rest fits_rest c)
    ]
  where
    by_rest : (x : Found) → stream_at place bytes ≡ Ok x → StandsFrom (place + 1) p e most x.1 → StandsFrom place p e (suc most) bytes
    by_rest x one (k, at, more) =
        let s = stream_found place bytes fits x one in
        let lines_are = stands_whole most place bytes x one in (
          k + 1,
          omega (arith, at),
          record {
            streams = x.0 ∷ more.streams;
            whole = All-cons IsWhole x.0 more.streams s.whole more.whole;
            count = omega (arith, more.count);
            rest = more.rest;
            parts = s.spelled ∙ ap (λ (v : List ℕ). stream_spelling x.0.header x.0.records ++ v) more.parts ∙ sym (append_assoc (stream_spelling x.0.header x.0.records) (bytes_of more.streams) more.rest);
            lines = more.lines;
            front = more.front;
            is = grind (arith, flat_map-append, append_assoc, lines_are, more.is);
          },
        )

    by_stream : (stream_at place bytes ≡ Err (faults.Stream p e)) ⊎ ((x : Found) × (stream_at place bytes ≡ Ok x) × ((streams_at most (place + 1) x.1 >>= λ ys. Ok (x.0 ∷ ys)) ≡ Err (faults.Stream p e)))
        → ((rest : List ℕ) → AreBytes rest → streams_at most (place + 1) rest ≡ Err (faults.Stream p e) → StandsFrom (place + 1) p e most rest) → StandsFrom place p e (suc most) bytes
    by_stream (inl refused) later =
        let s = nothing_behind most place bytes p e refused in (
          0,
          omega (arith, s.0),
          record {
            streams = [];
            whole = All-nil IsWhole;
            count = refl;
            rest = bytes;
            parts = refl;
            lines = (front_at bytes).lines;
            front = stands_refused place bytes fits p e refused;
            is = ap (flat_map whole_line) s.1;
          },
        )
    by_stream (inr (x, one, k)) later = by_rest x one (later x.1 (stream_found place bytes fits x one).fits (map_err _ _ (faults.Stream p e) k))

-- ---- their text

pub whole_streams_stand_whole : WholeStreamsStandWhole
whole_streams_stand_whole bytes text e =
    let s = map_ok _ _ text e in
    ap (flat_map whole_line) (all_stand (length bytes) 0 bytes s.0 s.1) ∙ sym (streams_text s.0) ∙ s.2

pub refused_is_told : RefusedIsToldUpToItsFault
refused_is_told bytes place e fits k =
    let s = stands_at place e (length bytes) 0 bytes fits (map_err (streams_in bytes) _ (faults.Stream place e) k) in
    let same : s.0 ≡ place = omega (arith, s.1) in
    subst (λ (k : ℕ). StandsBefore k e bytes (text_before_fault bytes)) same s.2
