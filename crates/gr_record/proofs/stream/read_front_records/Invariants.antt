use Rattle.gr_model.proofs.Common.{◌≡◌, ◌-◌}
use Rattle.gr_record.specs.Prelude.{MOST_RECORDS, records_of, whole, front_records_at}
use Rattle.gr_record.proofs.Loop.{with_prefix}
use Rattle.gr_record.proofs.stream.read_front_records.Given as goal

abbrev pub invariant-loop : goal.invariant-loop
invariant-loop g l = whole (with_prefix l.events.items (records_of l.header (MOST_RECORDS - l.counter) l.rest)) ≡ front_records_at l.header l.bytes
