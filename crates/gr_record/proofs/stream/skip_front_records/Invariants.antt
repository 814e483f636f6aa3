use Rattle.gr_model.proofs.Common.{◌≡◌, ◌-◌, Ok}
use Rattle.gr_record.specs.Prelude.{MOST_RECORDS, records_of, ◌>>=◌, whole, behind_records_at}
use Rattle.gr_record.proofs.stream.skip_front_records.Given as goal

abbrev pub invariant-loop : goal.invariant-loop
invariant-loop l = (whole (records_of l.header (MOST_RECORDS - l.counter) l.rest) >>= λ x. Ok x.1) ≡ behind_records_at l.header l.bytes
