use Rattle.gr_model.proofs.Common.{◌≡◌, ◌≤◌, ◌+◌, ◌-◌, length}
use Rattle.gr_record.specs.Prelude.{records_of, MOST_RECORDS}
use Rattle.gr_places.proofs.spot.skip_accepted.Given as goal

-- `number` records were accepted, and the rest of the bytes completes what all bytes give
abbrev pub invariant-loop-number : goal.invariant-loop-number
invariant-loop-number l =
    let left = records_of l.header (MOST_RECORDS - l.number) l.rest in
    let all = records_of l.header MOST_RECORDS l.bytes in
    record { number : l.number + length left.events ≡ length all.events; rest : left.rest ≡ all.rest; few : length l.rest ≤ length l.bytes }
