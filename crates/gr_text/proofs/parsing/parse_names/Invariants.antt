use Rattle.gr_model.proofs.Common.{◌≡◌, ◌-◌, ◌++◌, length, take, Some, option_map}
use Rattle.gr_text.specs.Prelude.{names_said}
use Rattle.gr_text.specs.LineReading.{◌>>=◌}
use Rattle.gr_text.proofs.parsing.parse_names.Given as goal

abbrev pub invariant-loop-place : goal.invariant-loop-place
invariant-loop-place l = (length l.names ≡ 4) × ((names_said (option_map (λ rest. rest.now) l.rest) (4 - l.place) >>= λ names. Some (take l.place l.names ++ names)) ≡ names_said (option_map (λ rest. rest.now) l.bytes) 4)
