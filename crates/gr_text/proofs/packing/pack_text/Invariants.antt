use Rattle.gr_model.proofs.Common.{◌≡◌, ◌+◌, ◌≤◌, length}
use Rattle.gr_text.specs.Prelude.{lines_of, version_at, said_from, packed}
use Rattle.gr_text.proofs.Steps.{bytes_behind}
use Rattle.gr_text.proofs.packing.pack_text.Given as goal

abbrev pub invariant-loop-rest : goal.invariant-loop-rest
invariant-loop-rest g l = record { so_far : bytes_behind l.bytes.items (version_at l.place) (said_from (l.number + 1) l.place (lines_of l.rest)) ≡ packed l.text; few : l.number + length l.rest ≤ length l.text }

abbrev pub decreases-loop-rest : goal.decreases-loop-rest
decreases-loop-rest g l = length l.rest
