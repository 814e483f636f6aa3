use Rattle.gr_model.proofs.Common.{◌≡◌, ◌-◌}
use Rattle.gr_record.specs.Prelude.{bad_field, bad_field_from}
use Rattle.gr_record.proofs.reading.find_bad_field.Given as goal

abbrev pub invariant-loop-place : goal.invariant-loop-place
invariant-loop-place l = bad_field l.version l.bytes ≡ bad_field_from l.version l.bytes l.place (12 - l.place)
