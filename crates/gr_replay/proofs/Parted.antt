-- Bytes that are read as a launch are inputs one after another, each of which is one stream.
use Rattle.gr_model.proofs.Common.{◌≡◌, ℕ, zero, suc, ◌≤◌, List, [], ◌∷◌, ◌++◌, length, Ok, inl, inr, sym, ap, subst, ◌∙◌, arith, append_assoc, length-append, nil_from_length}
use Rattle.gr_text.specs.Prelude.{Event, WholeStream, IsWhole}
use Rattle.gr_model.specs.Prelude.{is_complete}
use Rattle.gr_record.specs.Prelude.{AreBytes, all_sited, events_spelling, header_spelling}
use Rattle.gr_record.proofs.FoundPrefixes.{events_sited}
use Rattle.gr_text.proofs.Streaming.{events_found, header_found}
use Rattle.gr_intake.specs.Joined.{Flat, joined_at}
use Rattle.gr_intake.proofs.Accepted.{BeginsWith, follows, joined_cases}
use Rattle.gr_intake.proofs.Seen.{front_is}
use Rattle.gr_replay.specs.Laws.{BytesAreInputs, joined}
use Rattle.gr_replay.proofs.Alone.{IsStreamOf}
use Rattle.gr_replay.proofs.JoinedInputs.{AreStreamsOf, same_of}
use Rattle.gr_replay.proofs.Upgrades.{spelled, whole_is}

-- the bytes of a stream, and those after it
record IsPart (bytes : List ℕ) (f : Flat) (rest : List ℕ) : Type 0 where
  front : List ℕ
  parts : bytes ≡ front ++ rest
  is : IsStreamOf front f
  fits : AreBytes rest

part : (bytes : List ℕ) (f : Flat) (rest : List ℕ) → AreBytes bytes → BeginsWith bytes f rest → IsPart bytes f rest
part bytes f rest fits begins =
    let h = header_found bytes fits f.header begins.behind begins.header in
    let e = events_found f.header begins.behind h.fits f.events rest begins.records in
    let s : WholeStream = record { header = f.header; records = all_sited f.header.version f.events begins.behind } in
    let events = events_sited f.header.version f.events begins.behind in
    let whole : IsWhole s = record { prefix = record { header = h.header; runs = e.runs; few = e.few }; ended = ap is_complete events ∙ e.ended } in
    record {
      front = spelled s;
      parts = h.parts ∙ (ap (λ (v : List ℕ). header_spelling f.header ++ v) e.parts ∙ sym (append_assoc (header_spelling f.header) (events_spelling f.header.version s.records) rest));
      is = subst (λ (es : List Event). IsStreamOf (spelled s) (record { header = f.header; events = es })) events (whole_is s whole);
      fits = e.fits;
    }

-- the bytes are such inputs
abbrev AreInputs : List ℕ → Type 0
AreInputs bytes = (inputs : List (List ℕ)) × (fs : List Flat) × AreStreamsOf inputs fs × (bytes ≡ joined inputs)

no_bytes : (bytes : List ℕ) → length bytes ≡ 0 → AreInputs bytes
no_bytes bytes none = ([], [], tt, nil_from_length bytes none)

parted : (n : ℕ) (seen : List Flat) (bytes : List ℕ) → AreBytes bytes → length bytes ≤ n → (out : List Flat) → joined_at n seen bytes ≡ Ok out → AreInputs bytes
unfolding joined_at
parted zero seen bytes fits le out is = no_bytes bytes (omega (arith, le))
parted (suc n) seen bytes fits le out is =
    elim (joined_cases n seen bytes out is) [
      | inl none ↦ no_bytes bytes none.0
      | inr ((f, rest), one, later) ↦
          let p = part bytes f rest fits (follows seen bytes f rest one).begins in
          let long = (front_is p.front f.header p.is.behind p.is.header).long in
          let more = parted n (seen ++ f ∷ []) rest p.fits (omega (arith, le, long, ap length p.parts, length-append p.front rest)) out later in
          (p.front ∷ more.0, f ∷ more.1, (p.is, more.2), p.parts ∙ ap (λ (v : List ℕ). p.front ++ v) more.3)
    ]

pub bytes_are_inputs : BytesAreInputs
bytes_are_inputs bytes s fits (seen, is, launch) = grind (arith, parted, fits, is, same_of)
