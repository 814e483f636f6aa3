-- What the bytes after those that were read add: a header, a record, and bytes that are no whole one.
use Rattle.gr_model.proofs.Common.{◌≡◌, ℕ, zero, suc, ◌+◌, ◌-◌, ◌<◌, ◌≤◌, true, false, List, [], ◌∷◌, ◌++◌, length, take, drop, Some, None, Result, Ok, Err, refl, sym, ap, ◌∙◌, subst, arith, inl, inr, append_assoc, eqb-true, ◌==◌, drop_at, length-append, length-drop, length-map, take-append-drop, take_at, cases_lt, eqb-false, lt-ltb, ne_eqb}
use Rattle.gr_intake.specs.Types.{Event, MOST_RECORDS, RecordError, Fault, Header, HEADER_LENGTH}
use Rattle.gr_model.specs.Prelude.{is_end}
use Rattle.gr_record.specs.declared.error.RecordError.TheVariants as errors
use Rattle.gr_record.specs.declared.fault.Fault.TheVariants as faults
use Rattle.gr_record.specs.declared.stop.Stop.{Stop}
use Rattle.gr_record.specs.Prelude.{Records, records_at, records_of, step, event_at, record_length, front_header_at, front_records_at, up_to, whole}
use Rattle.gr_record.proofs.Loop as loop
use Rattle.gr_intake.proofs.Accepted.{follows}
use Rattle.gr_intake.proofs.Faults.{ok}
use Rattle.gr_intake.proofs.Seen.{front_is, is_after}
use Rattle.gr_intake.specs.Intakes.{behind_events, next_event_at, read_behind, with_event}
use Rattle.gr_intake.specs.Joined.{Flat, ◌>>=◌, at_place, header_after, headers_in, joined_at, stream_at}

-- ---- what is left is no longer

module _ (size : ℕ) (read : List ℕ → Result Event RecordError) where
  step_rest : (r : Result Event RecordError) (bytes : List ℕ) (next : Records) → length next.rest ≤ length bytes → length (step size r bytes next).rest ≤ length bytes
  step_rest r bytes next le = grind (arith, length-drop)

  rest_no_longer : (most : ℕ) (bytes : List ℕ) → length (records_at size read most bytes).rest ≤ length bytes
  unfolding records_at
  rest_no_longer zero bytes = omega arith
  rest_no_longer (suc most) bytes =
      elim (cases_lt (length bytes) size) [
        | inl lt ↦ subst (λ (r : Records). length r.rest ≤ length bytes) (sym (loop.short size read (suc most) bytes lt)) (omega arith)
        | inr long ↦ subst (λ (r : Records). length r.rest ≤ length bytes) (sym (loop.next size read most bytes long))
            (step_rest (read (take size bytes)) bytes (records_at size read most (drop size bytes)) (omega (arith, rest_no_longer most (drop size bytes), length-drop size bytes)))
      ]

up_to_rest : (s : Stop) (events : List Event) (rest : List ℕ) (x : List Event × List ℕ) → up_to s events rest ≡ Ok x → x.1 ≡ rest
up_to_rest s events rest x is = grind arith

records_shorter : (h : Header) (bytes : List ℕ) (x : List Event × List ℕ) → front_records_at h bytes ≡ Ok x → length x.1 ≤ length bytes
unfolding front_records_at
records_shorter h bytes x is = grind (arith, up_to_rest, rest_no_longer)

-- ---- the bound of how many streams may follow

abbrev with_stream : ℕ → List Flat → Flat × List ℕ → Result (List Flat) Fault
with_stream n seen s = joined_at n (seen ++ s.0 ∷ []) s.1

stream_shorter : (seen : List Flat) (bytes : List ℕ) (f : Flat) (rest : List ℕ) → stream_at seen bytes ≡ Ok (f, rest) → length rest < length bytes
stream_shorter seen bytes f rest is =
    let begins = (follows seen bytes f rest is).begins in
    let front = front_is bytes f.header begins.behind begins.header in
    omega (arith, records_shorter f.header begins.behind (f.events, rest) begins.records, ap length front.left, length-drop HEADER_LENGTH bytes, front.long)

-- where bytes are there and one stream more may follow, one is read
goes_on : (m n : ℕ) (seen : List Flat) (bytes : List ℕ) → m ≡ suc n → (length bytes == 0) ≡ false → joined_at m seen bytes ≡ stream_at seen bytes >>= with_stream n seen
unfolding joined_at
goes_on m n seen bytes is some = rw (is, some) refl

-- where the bound is no less than the bytes are many, it does not matter
pub same_bound : (n m : ℕ) (seen : List Flat) (bytes : List ℕ) → length bytes ≤ n → length bytes ≤ m → joined_at n seen bytes ≡ joined_at m seen bytes
unfolding joined_at
same_bound zero zero seen bytes le lt = refl
same_bound zero (suc m) seen [] le lt = refl
same_bound zero (suc m) seen (b ∷ bytes) le lt = absurd (omega (arith, le))
same_bound (suc n) zero seen [] le lt = refl
same_bound (suc n) zero seen (b ∷ bytes) le lt = absurd (omega (arith, lt))
same_bound (suc n) (suc m) seen [] le lt = refl
same_bound (suc n) (suc m) seen (b ∷ bytes) le lt = rw (ne_eqb (length (b ∷ bytes)) 0 (λ e. omega (arith, e))) (by_stream (stream_at seen (b ∷ bytes)) refl (same_bound n m))
  where
    by_stream : (r : Result (Flat × List ℕ) Fault) → stream_at seen (b ∷ bytes) ≡ r → ((fs : List Flat) (xs : List ℕ) → length xs ≤ n → length xs ≤ m → joined_at n fs xs ≡ joined_at m fs xs) → (r >>= with_stream n seen) ≡ (r >>= with_stream m seen)
    by_stream (Err e) is later = refl
    by_stream (Ok (f, rest)) is later = let less = stream_shorter seen (b ∷ bytes) f rest is in later (seen ++ f ∷ []) rest (omega (arith, less, le)) (omega (arith, less, lt))

-- the records after a header are those of a stream where none has come
whole_is : (h : Header) (rest : List ℕ) → front_records_at h rest ≡ whole (behind_events [] (records_of h (MOST_RECORDS - 0) rest))
unfolding front_records_at
whole_is h rest = refl

-- ---- no stream goes on

module _ (seen : List Flat) (bytes : List ℕ) (some : 0 < length bytes) where
  one_follows : read_behind seen None bytes ≡ stream_at seen bytes >>= with_stream (length bytes - 1) seen
  one_follows = goes_on (length bytes) (length bytes - 1) seen bytes (omega (arith, some)) (ne_eqb (length bytes) 0 (λ e. omega (arith, e, some)))

  pub header_refused : (f : Fault) → header_after (headers_in seen) bytes ≡ Err f → read_behind seen None bytes ≡ Err f
  unfolding stream_at
  header_refused f is = one_follows ∙ rw is refl

  pub stream_begins : (h : Header) (rest : List ℕ) → header_after (headers_in seen) bytes ≡ Ok (h, rest) → read_behind seen None bytes ≡ read_behind seen (Some (record { header = h; events = [] })) rest
  unfolding stream_at
  stream_begins h rest is = one_follows ∙ rw is (by_records (front_records_at h rest) refl)
    where
      less : length rest < length bytes
      less = let front = front_is bytes h rest (is_after (headers_in seen) bytes h rest is).front in omega (arith, ap length front.left, length-drop HEADER_LENGTH bytes, front.long)

      by_records : (x : Result (List Event × List ℕ) RecordError) → front_records_at h rest ≡ x
          → ((at_place (length seen) x >>= λ r. Ok (record { header = h; events = r.0 }, r.1)) >>= with_stream (length bytes - 1) seen)
          ≡ (at_place (length seen) (whole (behind_events [] (records_of h (MOST_RECORDS - 0) rest))) >>= λ r. joined_at (length r.1) (seen ++ record { header = h; events = r.0 } ∷ []) r.1)
      by_records x k = grind (arith, records_shorter, same_bound, less, whole_is)

-- bytes that are no whole header
pub nothing_follows : (seen : List Flat) → read_behind seen None [] ≡ Ok seen
unfolding joined_at
nothing_follows seen = refl

pub header_cut : (seen : List Flat) (bytes : List ℕ) → 0 < length bytes → length bytes < HEADER_LENGTH → read_behind seen None bytes ≡ Err (faults.Stream (length seen) errors.Truncated)
unfolding header_after front_header_at
header_cut seen bytes some short = header_refused seen bytes some (faults.Stream (length seen) errors.Truncated) (rw (lt-ltb (length bytes) HEADER_LENGTH short, length-map) refl)

-- ---- a stream goes on

module _ (seen : List Flat) (f : Flat) where
  abbrev then : Result (List Event × List ℕ) RecordError → Result (List Flat) Fault
  then x = at_place (length seen) x >>= (λ r. joined_at (length r.1) (seen ++ record { header = f.header; events = r.0 } ∷ []) r.1)

  abbrev size : ℕ
  size = record_length f.header.version

  pub record_cut : (bytes : List ℕ) → length bytes < size → read_behind seen (Some f) bytes ≡ Err (faults.Stream (length seen) errors.Truncated)
  record_cut bytes short = ap then (loop.stops_short size (event_at f.header) f.events MOST_RECORDS (length f.events) bytes (whole (behind_events f.events (records_of f.header (MOST_RECORDS - length f.events) bytes))) refl short)

  module _ (unit rest : List ℕ) (all : length unit ≡ size) where
    abbrev read : Result (List Event × List ℕ) RecordError
    read = whole (behind_events f.events (records_of f.header (MOST_RECORDS - length f.events) (unit ++ rest)))

    long : size ≤ length (unit ++ rest)
    long = omega (arith, length-append unit rest, all)

    first : take size (unit ++ rest) ≡ unit
    first = take_at unit rest size all

    pub too_many : MOST_RECORDS ≤ length f.events → read_behind seen (Some f) (unit ++ rest) ≡ Err (faults.Stream (length seen) errors.TooManyRecords)
    too_many full = ap then (loop.none_left size (event_at f.header) f.events MOST_RECORDS (length f.events) (unit ++ rest) read refl full long)

    module _ (room : length f.events < MOST_RECORDS) where
      pub record_refused : (d : RecordError) → event_at f.header unit ≡ Err d → read_behind seen (Some f) (unit ++ rest) ≡ Err (faults.Stream (length seen) d)
      record_refused d is = ap then (loop.refused size (event_at f.header) f.events MOST_RECORDS (length f.events) (unit ++ rest) read refl room long d (ap (event_at f.header) first ∙ is))

      module _ (e : Event) (is : event_at f.header unit ≡ Ok e) where
        pub stream_ends : is_end e ≡ true → read_behind seen (Some f) (unit ++ rest) ≡ read_behind (seen ++ with_event f e ∷ []) None rest
        stream_ends end =
            let back : drop size (unit ++ rest) ≡ rest = drop_at unit rest size all in
            ap then (loop.ended size (event_at f.header) f.events MOST_RECORDS (length f.events) (unit ++ rest) read refl room long e (ap (event_at f.header) first ∙ is) end
            ∙ ap (λ (bytes : List ℕ). ok {E = RecordError} (f.events ++ e ∷ [], bytes)) back)

        pub stream_goes_on : is_end e ≡ false → read_behind seen (Some f) (unit ++ rest) ≡ read_behind seen (Some (with_event f e)) rest
        stream_goes_on on =
            let back : drop size (unit ++ rest) ≡ rest = drop_at unit rest size all in
            let count : MOST_RECORDS - (length f.events + 1) ≡ MOST_RECORDS - length (f.events ++ e ∷ []) = omega (arith, length-append f.events (e ∷ [])) in
            ap then (sym (loop.goes_on size (event_at f.header) f.events MOST_RECORDS (length f.events) (unit ++ rest) read refl room long e (ap (event_at f.header) first ∙ is) on)
            ∙ ap (λ (bytes : List ℕ). whole (behind_events (f.events ++ e ∷ []) (records_of f.header (MOST_RECORDS - (length f.events + 1)) bytes))) back
            ∙ ap (λ (n : ℕ). whole (behind_events (f.events ++ e ∷ []) (records_of f.header n rest))) count)

-- ---- bytes in front of others

pub split_whole : (n : ℕ) (bytes unit rest : List ℕ) → unit ≡ take n bytes → rest ≡ drop n bytes → bytes ≡ unit ++ rest
split_whole n bytes unit rest front back = sym (take-append-drop n bytes) ∙ (ap (λ (x : List ℕ). x ++ drop n bytes) (sym front) ∙ ap (λ (x : List ℕ). unit ++ x) (sym back))

pub split_more : (n : ℕ) (bytes unit rest more : List ℕ) → unit ≡ take n bytes → rest ≡ drop n bytes → bytes ++ more ≡ unit ++ (rest ++ more)
split_more n bytes unit rest more front back = ap (λ (x : List ℕ). x ++ more) (split_whole n bytes unit rest front back) ∙ append_assoc unit rest more

-- ---- what the next record says

pub next_failed : (seen : List Flat) (f : Flat) (unit rest : List ℕ) (d : RecordError) → length unit ≡ record_length f.header.version → length f.events ≤ MOST_RECORDS → next_event_at f.header (length f.events) unit ≡ Err d → read_behind seen (Some f) (unit ++ rest) ≡ Err (faults.Stream (length seen) d)
next_failed seen f unit rest d all few is = grind (arith, eqb-false, eqb-true, record_refused, too_many)
