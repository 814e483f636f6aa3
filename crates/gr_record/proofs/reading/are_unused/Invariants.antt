use Rattle.gr_model.proofs.Common.{◌≡◌, ◌-◌, ◌*◌, ◌≤◌, length}
use Rattle.gr_record.specs.Prelude.{are_unused}
use Rattle.gr_record.proofs.reading.are_unused.Given as goal

abbrev pub invariant-loop : goal.invariant-loop
invariant-loop l = (8 * (l.count - l.counter) ≤ length l.rest) × (are_unused (l.count - l.counter) l.rest ≡ are_unused l.count l.bytes)
