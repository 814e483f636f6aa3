use Rattle.gr_model.proofs.Common.{◌≡◌, ◌-◌, ◌++◌, length, Ok, flat_map}
use Rattle.gr_text.specs.Prelude.{formed, streams_at, formed_of}
use Rattle.gr_text.specs.Texts.{◌>>=◌}
use Rattle.gr_text.proofs.forming.formed_bytes.Given as goal

abbrev pub invariant-loop-place : goal.invariant-loop-place
invariant-loop-place g l = (streams_at (length l.bytes - l.place) l.place l.rest >>= λ ss. Ok (l.output.items ++ flat_map (formed l.form) ss)) ≡ formed_of l.form l.bytes
