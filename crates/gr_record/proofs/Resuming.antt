-- A decoder that goes on from what it kept reads what one reads that begins anew.
use Rattle.gr_model.proofs.Common.{ap, ◌≡◌, ℕ, ◌-◌, ◌≤◌, List, [], ◌∷◌, ◌++◌, map, length, take, drop, Some, None, Result, Ok, Err, refl, arith, take-append-le, drop-append-le, length-append, map-append, append-nil, nat_tests}
use Rattle.std.proofs.Math.Nat.{sub-zero, zero-add}
use Rattle.gr_record.specs.Prelude.{Event, RecordError, Header, Stop, Inside, HEADER_LENGTH, record_length, header_at, event_at, records_of, Reading, closed, under, read_from, reading, parts_of, standing, still, standing_after, FaultStays}
use Rattle.gr_record.specs.declared.part.Part.TheVariants as parts
use Rattle.gr_record.proofs.Growing.{grown, records_grow}

-- a reading of more bytes goes on from a reading of fewer
abbrev pub GoesOn : ℕ → List ℕ → Reading → Reading → Type 0
GoesOn limit piece fewer more =
    (standing limit more ≡ standing_after (standing limit fewer) (still (standing limit fewer) piece)) × (parts_of more ≡ parts_of fewer ++ parts_of (still (standing limit fewer) piece))

module _ (limit : ℕ) (piece : List ℕ) where
  records_go_on : (h : Header) (stop : Stop) (events : List Event) (rest : List ℕ) → GoesOn limit piece (closed (Some h) (record { events = events; rest = rest; stop = stop })) (closed (Some h) (grown stop (record { events = events; rest = rest; stop = stop }) (λ n. records_of h (limit - n) (rest ++ piece)) piece))
  unfolding read_from
  records_go_on h stop events rest =
      let more = (records_of h (limit - length events) (rest ++ piece)).events in
      grind (arith, length-append events more, map-append parts.Event events more, append-nil (parts.Header h ∷ map parts.Event events))

  under_goes_on : (fed : List ℕ) → HEADER_LENGTH ≤ length fed → (x : Result Header RecordError) → GoesOn limit piece (under x limit fed) (under x limit (fed ++ piece))
  under_goes_on fed long (Err e) = (refl, refl)
  under_goes_on fed long (Ok h) =
      let r = records_of h limit (drop HEADER_LENGTH fed) in
      rw (drop-append-le HEADER_LENGTH fed piece long, records_grow (record_length h.version) (event_at h) piece limit (drop HEADER_LENGTH fed)) (records_go_on h r.stop r.events r.rest)

  first_bytes : (fed : List ℕ) → GoesOn limit piece (record { header = None; events = []; rest = fed; stop = Inside }) (reading limit (fed ++ piece))
  first_bytes fed = rw (sub-zero limit, zero-add (length (reading limit (fed ++ piece)).events)) (refl, refl)

  pub reading_goes_on : (fed : List ℕ) → GoesOn limit piece (reading limit fed) (reading limit (fed ++ piece))
  unfolding read_from
  reading_goes_on fed =
      let long = λ (long : HEADER_LENGTH ≤ length fed). under_goes_on fed long (header_at (take HEADER_LENGTH fed)) in
      grind (arith, nat_tests, length-append fed piece, take-append-le HEADER_LENGTH fed piece, long, first_bytes fed)

-- after a fault nothing is read
pub fault_stays : FaultStays
fault_stays limit bytes more e is = grind (arith, append-nil (parts_of (reading limit bytes)), reading_goes_on limit more bytes)
