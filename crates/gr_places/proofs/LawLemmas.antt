-- A fault of the stream of an input, and where reading of that input stops.
use Rattle.gr_model.proofs.Common.{◌≡◌, ◌⊎◌, ℕ, suc, ◌+◌, Bool, true, false, List, [], ◌∷◌, ◌++◌, length, drop, Some, Result, Ok, Err, refl, ap, ◌∙◌, arith, inl, inr, ◌==◌, if◌then◌else◌, not, slice_get, ne_eqb, length-append, length-map, list_any, cases_lt, lt-ltb, le-ltb}
use Rattle.gr_places.specs.Types.{Event, MOST_RECORDS, RecordError, Fault, Header}
use Rattle.gr_record.specs.declared.error.RecordError.TheVariants as errors
use Rattle.gr_record.specs.declared.fault.Fault.TheVariants as faults
use Rattle.gr_text.specs.Types.{HEADER_LENGTH, Stop}
use Rattle.gr_record.specs.declared.stop.Stop.TheVariants.{Inside, AtEnd, AtFault}
use Rattle.gr_record.specs.Prelude.{close, last_answer, read_from, reading, records_of, header_at, front_header_at, front_records_at, under, up_to}
use Rattle.gr_record.specs.WholeStreams as record_spec
use Rattle.gr_replay.specs.Each.{each_at, only_stream_at}
use Rattle.gr_intake.specs.Joined.{Flat, ◌>>=◌, at_place, header_after, headers_in, stream_at}
use Rattle.gr_intake.proofs.Seen.{own_bytes}
use Rattle.gr_places.specs.Laws.{FaultsAreWhereReadingStops}

-- ---- where reading stops, by what is at the front of the bytes

abbrev stops_by : Result (Header × List ℕ) RecordError → Result (Unit {0}) RecordError
stops_by (Err d) = Err d
stops_by (Ok h) = let r = records_of h.0 MOST_RECORDS h.1 in last_answer (close r.stop r.rest)

module _ (bytes : List ℕ) where
  under_stops : (x : Result Header RecordError) → last_answer (under x MOST_RECORDS bytes).stop ≡ stops_by (record_spec.◌>>=◌ {Y = Header × List ℕ} x (λ h. Ok (h, drop HEADER_LENGTH bytes)))
  under_stops (Err d) = refl
  under_stops (Ok h) = refl

  reading_stops : last_answer (reading MOST_RECORDS bytes).stop ≡ stops_by (front_header_at bytes)
  unfolding front_header_at read_from
  reading_stops =
      elim (cases_lt (length bytes) HEADER_LENGTH) [
        | inl lt ↦ rw (lt-ltb (length bytes) HEADER_LENGTH lt) refl
        | inr long ↦ rw (le-ltb (length bytes) HEADER_LENGTH long, own_bytes bytes long) (under_stops (header_at bytes))
      ]

-- ---- the stream at a place stops for an error

module _ (seen : List Flat) (place : ℕ) (e : RecordError) where
  abbrev Stops : Result (Unit {0}) RecordError → Type 0
  Stops stop = (place ≡ length seen) × (stop ≡ Err e)

  abbrev only : Flat × List ℕ → Result Flat Fault
  only s = if length s.1 == 0 then Ok s.0 else Err (faults.Stream (length seen) errors.AfterEnd)

  abbrev kept : Header → List Event × List ℕ → Result (Flat × List ℕ) Fault
  kept h r = Ok (record { header = h; events = r.0 }, r.1)

  records_stop : (h : Header) (stop : Stop) (events : List Event) (rest : List ℕ) → ((at_place (length seen) (up_to stop events rest) >>= kept h) >>= only) ≡ Err (faults.Stream place e) → Stops (last_answer (close stop rest))
  records_stop h Inside events rest is = (cc, cc)
  records_stop h AtEnd events [] is = absurd cc
  records_stop h AtEnd events (b ∷ rest) is =
      let some : (length (b ∷ rest) == 0) ≡ false = ne_eqb (suc (length rest)) 0 (λ none. absurd (omega (arith, none))) in
      let behind = rw some at is in
      (cc, cc)
  records_stop h (AtFault d) events rest is = (cc, cc)

  abbrev records : Header × List ℕ → Result (Flat × List ℕ) Fault
  records h = at_place (length seen) (front_records_at h.0 h.1) >>= kept h.0

  -- after a header: the group and the launch are compared first
  abbrev compared : Bool → Bool → Header × List ℕ → Result (Header × List ℕ) Fault
  compared same other h =
      (if same then Err (faults.SameGroup (length (headers_in seen))) else if other then Err (faults.OtherLaunch (length (headers_in seen))) else Ok h.0) >>= λ g. Ok (g, h.1)

  header_stops : (same other : Bool) (h : Header × List ℕ) → ((compared same other h >>= records) >>= only) ≡ Err (faults.Stream place e) → Stops (stops_by (Ok h))
  unfolding front_records_at
  header_stops true other h is = absurd cc
  header_stops false true h is = absurd cc
  header_stops false false h is = let r = records_of h.0 MOST_RECORDS h.1 in records_stop h.0 r.stop r.events r.rest is

  front_stops : (same other : Header × List ℕ → Bool) (x : Result (Header × List ℕ) RecordError) → (((at_place (length (headers_in seen)) x >>= λ h. compared (same h) (other h) h) >>= records) >>= only) ≡ Err (faults.Stream place e) → Stops (stops_by x)
  front_stops same other (Err d) is = let at : place ≡ length (headers_in seen) = cc in (at ∙ length-map seen (λ f. f.header), cc)
  front_stops same other (Ok h) is = header_stops (same h) (other h) h is

  stream_stops : (bytes : List ℕ) → only_stream_at seen bytes ≡ Err (faults.Stream place e) → Stops (last_answer (reading MOST_RECORDS bytes).stop)
  unfolding only_stream_at stream_at header_after
  stream_stops bytes is =
      rw (reading_stops bytes) (front_stops (λ h. list_any (λ s. s.group == h.0.group) (headers_in seen)) (λ h. list_any (λ s. not (s.launch == h.0.launch)) (headers_in seen)) (front_header_at bytes) is)

-- ---- an input stops for an error, with `before` others before these inputs

record StopsAmong (before : ℕ) (inputs : List (List ℕ)) (place : ℕ) (e : RecordError) : Type 0 where
  pub number : ℕ
  pub bytes : List ℕ
  pub at : place ≡ before + number
  pub there : slice_get inputs number ≡ Some bytes
  pub stop : last_answer (reading MOST_RECORDS bytes).stop ≡ Err e

either_stops : (x : Result Flat Fault) (f : Flat → Result (List Flat) Fault) (d : Fault) → (x >>= f) ≡ Err d → (x ≡ Err d) ⊎ ((s : Flat) × (f s ≡ Err d))
either_stops (Err c) f d is = inl cc
either_stops (Ok s) f d is = inr (s, is)

each_stops : (place : ℕ) (e : RecordError) (inputs : List (List ℕ)) (seen : List Flat) → each_at seen inputs ≡ Err (faults.Stream place e) → StopsAmong (length seen) inputs place e
unfolding each_at
each_stops place e [] seen is = absurd cc
each_stops place e (bytes ∷ inputs) seen is =
    elim (either_stops (only_stream_at seen bytes) (λ f. each_at (seen ++ f ∷ []) inputs) (faults.Stream place e) is) [
      | inl here ↦ let s = stream_stops seen place e bytes here in record { number = 0; bytes = bytes; at = omega (arith, s.0); there = refl; stop = s.1 }
      | inr later ↦
          let s = each_stops place e inputs (seen ++ later.0 ∷ []) later.1 in
          record { number = suc s.number; bytes = s.bytes; at = omega (arith, s.at, length-append seen (later.0 ∷ [])); there = s.there; stop = s.stop }
    ]

pub faults_stop : FaultsAreWhereReadingStops
faults_stop inputs place e fault =
    elim fault [
      | inl refused ↦
          let s = each_stops place e inputs [] refused in
          let at : place ≡ s.number = omega (arith, s.at) in
          (s.bytes, ap (λ (n : ℕ). slice_get inputs n) at ∙ s.there, s.stop)
      | inr launch ↦ absurd launch.2
    ]
