use Rattle.gr_model.proofs.Common.{◌≡◌, ◌-◌, ◌*◌, ◌≤◌, ◌++◌, length, take}
use Rattle.gr_record.specs.Prelude.{names_in}
use Rattle.gr_record.proofs.reading.read_names.Given as goal

abbrev pub invariant-loop-place : goal.invariant-loop-place
invariant-loop-place l = (8 * (l.count - l.place) ≤ length l.rest) × (length l.names ≡ 4) × (take l.place l.names ++ names_in (l.count - l.place) l.rest ≡ names_in l.count l.bytes)
