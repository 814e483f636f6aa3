-- Reading records one after the other, as a loop does.
use Rattle.gr_model.proofs.Common.{◌≡◌, ℕ, zero, suc, ◌+◌, ◌-◌, ◌<◌, ◌≤◌, true, false, List, [], ◌∷◌, ◌++◌, length, take, drop, Result, Ok, Err, refl, sym, ap, ◌∙◌, append_assoc, arith, lt-ltb, le-ltb}
use Rattle.gr_record.specs.Prelude.{Event, RecordError, Records, behind, step, records_at, whole, Inside, AtFault}
use Rattle.gr_model.specs.Prelude.{is_end}
use Rattle.gr_record.specs.declared.error.RecordError.TheVariants as errors
use Rattle.gr_record.specs.WholeStreams.{Fails}
use Rattle.gr_record.proofs.Judging.{event_apart}
use Rattle.gr_record.proofs.Numbers.{one_left}

-- events before those of a reading
abbrev pub with_prefix : List Event → Records → Records
with_prefix prefix r = record { events = prefix ++ r.events; rest = r.rest; stop = r.stop }

pub regroup : (prefix : List Event) (e : Event) (r : Records) → with_prefix prefix (behind e r) ≡ with_prefix (prefix ++ e ∷ []) r
regroup prefix e r = ap (λ (es : List Event). record { events = es; rest = r.rest; stop = r.stop }) (sym (append_assoc prefix (e ∷ []) r.events))

-- what reading one record gives for the whole
pub fails : {Y : Type 0} (e : RecordError) (total : Result Y RecordError) → total ≡ Err e → Fails e total
fails e total h = grind arith

module _ (size : ℕ) (read : List ℕ → Result Event RecordError) where
  -- fewer bytes than a record has
  pub short : (most : ℕ) (bytes : List ℕ) → length bytes < size → records_at size read most bytes ≡ record { events = []; rest = bytes; stop = Inside }
  unfolding records_at
  short zero bytes lt = rw (lt-ltb (length bytes) size lt) refl
  short (suc most) bytes lt = rw (lt-ltb (length bytes) size lt) refl

  -- no further record may come
  pub too_many : (bytes : List ℕ) → size ≤ length bytes → records_at size read 0 bytes ≡ record { events = []; rest = bytes; stop = AtFault errors.TooManyRecords }
  unfolding records_at
  too_many bytes le = rw (le-ltb (length bytes) size le) refl

  -- a whole record
  pub next : (most : ℕ) (bytes : List ℕ) → size ≤ length bytes → records_at size read (suc most) bytes ≡ step size (read (take size bytes)) bytes (records_at size read most (drop size bytes))
  unfolding records_at
  next most bytes le = rw (le-ltb (length bytes) size le) refl

  -- the same as a loop counts, which is at i and ends at stop
  pub next_at : (stop i : ℕ) (bytes : List ℕ) → i < stop → size ≤ length bytes → records_at size read (stop - i) bytes ≡ step size (read (take size bytes)) bytes (records_at size read (stop - (i + 1)) (drop size bytes))
  next_at stop i bytes lt le = rw (one_left stop i lt) (next (stop - (i + 1)) bytes le)

  pub too_many_at : (stop i : ℕ) (bytes : List ℕ) → stop ≤ i → size ≤ length bytes → records_at size read (stop - i) bytes ≡ record { events = []; rest = bytes; stop = AtFault errors.TooManyRecords }
  too_many_at stop i bytes le long = let k : stop - i ≡ 0 = omega arith in rw k (too_many bytes long)

-- what a loop over records needs of each
pub ruleset loop_steps = (next_at, short, too_many_at, event_apart, append_assoc)

module _ (size : ℕ) (read : List ℕ → Result Event RecordError) (prefix : List Event) (stop i : ℕ) (bytes : List ℕ) (total : Result (List Event × List ℕ) RecordError) (so_far : whole (with_prefix prefix (records_at size read (stop - i) bytes)) ≡ total) where
  pub stops_short : length bytes < size → total ≡ Err errors.Truncated
  stops_short lt = sym so_far ∙ ap (λ (r : Records). whole (with_prefix prefix r)) (short size read (stop - i) bytes lt)

  pub none_left : stop ≤ i → size ≤ length bytes → total ≡ Err errors.TooManyRecords
  none_left le long = sym so_far ∙ ap (λ (r : Records). whole (with_prefix prefix r)) (too_many_at size read stop i bytes le long)

  module _ (lt : i < stop) (long : size ≤ length bytes) where
    one_more : (r : Result Event RecordError) → read (take size bytes) ≡ r → whole (with_prefix prefix (step size r bytes (records_at size read (stop - (i + 1)) (drop size bytes)))) ≡ total
    one_more r is = rw (next_at size read stop i bytes lt long, is) at so_far

    -- a record at fault
    pub refused : (d : RecordError) → read (take size bytes) ≡ Err d → total ≡ Err d
    refused d is = sym (one_more (Err d) is)

    -- the end
    pub ended : (e : Event) → read (take size bytes) ≡ Ok e → is_end e ≡ true → total ≡ Ok (prefix ++ e ∷ [], drop size bytes)
    ended e is end = sym (rw end at (one_more (Ok e) is))

    -- any other record
    pub goes_on : (e : Event) → read (take size bytes) ≡ Ok e → is_end e ≡ false → whole (with_prefix (prefix ++ e ∷ []) (records_at size read (stop - (i + 1)) (drop size bytes))) ≡ total
    goes_on e is end =
        ap whole (sym (regroup prefix e (records_at size read (stop - (i + 1)) (drop size bytes)))) ∙ (rw end at (one_more (Ok e) is))
