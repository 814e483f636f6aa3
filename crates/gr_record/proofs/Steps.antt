-- A decoder's steps: a whole header, a whole record, bytes that are kept, and the end of a piece.
use Rattle.gr_model.proofs.Common.{◌≡◌, ◌≢◌, ℕ, ◌+◌, ◌-◌, ◌<◌, ◌≤◌, Bool, List, [], ◌∷◌, ◌++◌, length, Option, Some, None, Ok, Err, refl, sym, ap, append_assoc, arith, take_at, drop_at, length-append, append-nil, nat_tests}
use Rattle.gr_record.specs.Prelude.{Event, RecordError, Header, Part, Stop, Inside, AtFault, HEADER_LENGTH, record_length, header_at, event_at, step, records_of, closed, under, read_from, reading, parts_of, Standing, standing, StandsFor, still, standing_after, IsStanding, IsHeldOk, stop_behind, Continues, GrowsAs}
use Rattle.gr_model.specs.Prelude.{is_end}
use Rattle.gr_record.specs.declared.error.RecordError.TheVariants as errors
use Rattle.gr_record.specs.declared.part.Part.TheVariants as parts
use Rattle.gr_record.proofs.Loop.{short, too_many_at, next_at}
use Rattle.gr_record.proofs.Resuming.{reading_goes_on}

-- what is read where a whole header comes first
from_header : (most : ℕ) (unit rest : List ℕ) → length unit ≡ HEADER_LENGTH → read_from None most (unit ++ rest) ≡ under (header_at unit) most (unit ++ rest)
unfolding read_from
from_header most unit rest len = grind (arith, nat_tests, length-append unit rest, take_at unit rest HEADER_LENGTH len)

-- a decoder that keeps no bytes may fail
pub fails_standing : {limit count : ℕ} {header : Option Header} {held : List ℕ} {stop : Stop} {e : RecordError} → IsStanding (record { limit = limit; header = header; count = count; held = held; stop = stop }) → held ≡ [] → e ≢ errors.Memory
    → IsStanding (record { limit = limit; header = header; count = count; held = held; stop = AtFault e })
fails_standing ok none apart = record { some = ok.some; limit = ok.limit; count = ok.count; held = (none, apart) }

-- what is read after a header
from_records : (h : Header) (most : ℕ) (bytes : List ℕ) → read_from (Some h) most bytes ≡ closed None (records_of h most bytes)
unfolding read_from
from_records h most bytes = refl

module _ (limit count : ℕ) (unit rest : List ℕ) (listed : List Part) where
  -- where no bytes are kept
  abbrev pub standing_at : Option Header → ℕ → Stop → Standing
  standing_at h n stop = record { limit = limit; header = h; count = n; held = []; stop = stop }

  -- what was read of the bytes of a header or a record
  abbrev pub Reads : Option Header → Option Header → ℕ → Stop → List Part → Type 0
  Reads before h n stop parts = Continues (standing_at before count Inside) (unit ++ rest) listed (standing_at h n stop) rest parts

  -- a header
  pub header_continues : (h : Header) → length unit ≡ HEADER_LENGTH → header_at unit ≡ Ok h → Reads None (Some h) count Inside (listed ++ parts.Header h ∷ [])
  unfolding read_from
  header_continues h len is =
      let r = rw (is, drop_at unit rest HEADER_LENGTH len) at (from_header (limit - count) unit rest len) in
      record { stands = rw r refl; parts = rw r (sym (append_assoc listed (parts.Header h ∷ []) _)) }

  -- what is at fault
  at_fault : (before : Option Header) (e : RecordError) → read_from before (limit - count) (unit ++ rest) ≡ record { header = None; events = []; rest = unit ++ rest; stop = AtFault e } → Reads before before count (AtFault e) listed
  at_fault before e r = record { stands = rw r refl; parts = rw r refl }

  -- a header at fault
  pub header_fails : (e : RecordError) → length unit ≡ HEADER_LENGTH → header_at unit ≡ Err e → Reads None None count (AtFault e) listed
  header_fails e len is = at_fault None e (rw is at (from_header (limit - count) unit rest len))

  module _ (h : Header) (len : length unit ≡ record_length h.version) where
    long : record_length h.version ≤ length (unit ++ rest)
    long = simp length-append (omega arith)

    -- one record more than the limit
    pub one_too_many : count ≡ limit → Reads (Some h) (Some h) count (AtFault errors.TooManyRecords) listed
    one_too_many full = at_fault (Some h) errors.TooManyRecords (rw (from_records h, too_many_at (record_length h.version) (event_at h) limit count (unit ++ rest) (omega arith) long) refl)

    module _ (lt : count < limit) where
      one_more : read_from (Some h) (limit - count) (unit ++ rest) ≡ closed None (step (record_length h.version) (event_at h unit) (unit ++ rest) (records_of h (limit - (count + 1)) rest))
      one_more = rw (from_records h, next_at (record_length h.version) (event_at h) limit count (unit ++ rest) lt long, take_at unit rest (record_length h.version) len, drop_at unit rest (record_length h.version) len) refl

      -- a record at fault
      pub record_fails : (e : RecordError) → event_at h unit ≡ Err e → Reads (Some h) (Some h) count (AtFault e) listed
      record_fails e is = at_fault (Some h) e (rw is at one_more)

      -- a record
      pub record_taken : (e : Event) (end : Bool) → event_at h unit ≡ Ok e → is_end e ≡ end → Reads (Some h) (Some h) (count + 1) (stop_behind end) (listed ++ parts.Event e ∷ [])
      record_taken e end is same = grind (arith, one_more, from_records, append_assoc, drop_at unit rest (record_length h.version) len)

-- ---- the end of a piece

-- nothing is read of no bytes
settled : (limit count : ℕ) (h : Option Header) (held : List ℕ) (stop : Stop) → IsHeldOk stop h held
    → let d : Standing = record { limit = limit; header = h; count = count; held = held; stop = stop } in (standing_after d (still d []) ≡ d) × (parts_of (still d []) ≡ [])
unfolding read_from
settled limit count h held stop ok = grind (arith, nat_tests, append-nil held, short)

-- what was read of a whole piece
pub fed : (old new : Standing) (piece : List ℕ) (before after : List Part) → IsStanding new → Continues old piece before new [] after → (bytes : List ℕ) → StandsFor old bytes
    → StandsFor new (bytes ++ piece) × GrowsAs (parts_of (reading old.limit bytes)) (parts_of (reading old.limit (bytes ++ piece))) before after
fed old new piece before after ok c bytes so =
    let s = settled new.limit new.count new.header new.held new.stop ok.held in
    grind (arith, s, c.stands, c.parts, reading_goes_on old.limit piece bytes, append-nil after)
