-- One stream, and the bytes that follow it.
use Rattle.gr_model.proofs.Common.{◌≡◌, ℕ, List, [], ◌++◌, length, Result, Ok, Err, refl, sym, ap, ◌∙◌, subst, arith, append-nil, eqb-true, ◌==◌, if◌then◌else◌, nil_from_length}
use Rattle.gr_replay.specs.Types.{Event, RecordError, Fault, Header}
use Rattle.gr_record.specs.declared.error.RecordError.TheVariants as errors
use Rattle.gr_record.specs.declared.fault.Fault.TheVariants as faults
use Rattle.gr_record.specs.Prelude.{front_header_at, front_records_at, whole}
use Rattle.gr_record.proofs.Growing.{grown, records_grow}
use Rattle.gr_intake.specs.Joined.{Flat, ◌>>=◌, header_after, headers_in, stream_at, unless_seen}
use Rattle.gr_intake.proofs.Accepted.{BeginsWith, follows}
use Rattle.gr_intake.proofs.Faults.{same_ok}
use Rattle.gr_intake.proofs.Seen.{front_is, front_more}
use Rattle.gr_replay.specs.Each.{only_stream_at}

-- the bytes are this stream
abbrev pub IsStreamOf : List ℕ → Flat → Type 0
IsStreamOf bytes f = BeginsWith bytes f []

-- ---- more bytes

header_on : (bytes more : List ℕ) (h : Header) (behind : List ℕ) → front_header_at bytes ≡ Ok (h, behind) → front_header_at (bytes ++ more) ≡ Ok (h, behind ++ more)
header_on bytes more h behind is = front_more bytes more (front_is bytes h behind is).long ∙ rw is refl

records_on : (h : Header) (bytes more : List ℕ) (events : List Event) → front_records_at h bytes ≡ Ok (events, []) → front_records_at h (bytes ++ more) ≡ Ok (events, more)
unfolding front_records_at
records_on h bytes more events is = grind (arith, records_grow, grown, same_ok)

-- of bytes that begin with a stream, no other stream is the whole
pub alone : (bytes more : List ℕ) (f g : Flat) → IsStreamOf bytes f → IsStreamOf (bytes ++ more) g → (f ≡ g) × (more ≡ [])
alone bytes more f g is whole =
    let header = same_ok {X = Header × List ℕ} {E = RecordError} (f.header, is.behind ++ more) (g.header, whole.behind) (sym (header_on bytes more f.header is.behind is.header) ∙ whole.header) in
    let records = subst (λ (y : Header × List ℕ). front_records_at y.0 y.1 ≡ Ok (f.events, more)) header (records_on f.header is.behind more f.events is.records) in
    let same = same_ok {X = List Event × List ℕ} {E = RecordError} (f.events, more) (g.events, []) (sym records ∙ whole.records) in
    let head : f.header ≡ g.header = ap (λ (y : Header × List ℕ). y.0) header in
    let list : f.events ≡ g.events = ap (λ (y : List Event × List ℕ). y.0) same in
    ((λ i. record { header = head i; events = list i }), ap (λ (y : List Event × List ℕ). y.1) same)

-- ---- after other streams

module _ (seen : List Flat) where
  -- a stream of another group, and of the same launch; or why it is none
  abbrev pub checked : Flat → Result Flat Fault
  checked f = unless_seen (headers_in seen) f.header >>= λ _. Ok f

  abbrev pub followed : List ℕ → Flat → Result (Flat × List ℕ) Fault
  followed more f = Ok (f, more)

  pub stream_on : (bytes more : List ℕ) (f : Flat) → IsStreamOf bytes f → stream_at seen (bytes ++ more) ≡ checked f >>= followed more
  unfolding header_after stream_at
  stream_on bytes more f is = grind (arith, header_on bytes more f.header is.behind is.header, records_on f.header is.behind more f.events is.records)

  abbrev only : Flat × List ℕ → Result Flat Fault
  only s = if length s.1 == 0 then Ok s.0 else Err (faults.Stream (length seen) errors.AfterEnd)

  pub only_on : (bytes : List ℕ) (f : Flat) → IsStreamOf bytes f → only_stream_at seen bytes ≡ checked f
  unfolding only_stream_at
  only_on bytes f is = grind (arith, append-nil bytes, stream_on bytes [] f is)

  -- what is read as the only stream of the bytes is read as their first
  pub only_read : (bytes : List ℕ) (f : Flat) → only_stream_at seen bytes ≡ Ok f → stream_at seen bytes ≡ Ok (f, [])
  unfolding only_stream_at
  only_read bytes f is = grind (arith, same_ok, nil_from_length, eqb-true)

  -- and are it, where it is the only one
  pub only_is : (bytes : List ℕ) (f : Flat) → only_stream_at seen bytes ≡ Ok f → IsStreamOf bytes f
  only_is bytes f is = (follows seen bytes f [] (only_read bytes f is)).begins
