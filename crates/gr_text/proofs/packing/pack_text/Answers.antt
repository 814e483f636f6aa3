use Rattle.gr_model.proofs.Common.{◌+◌, append_assoc, arith, sym}
use Rattle.gr_text.specs.Prelude.{sited_said, said_from, version_at}
use Rattle.gr_text.proofs.Steps.{line_at_ok}
use Rattle.gr_text.proofs.packing.pack_text.Goals as goal

pub loop-rest-preserved : goal.loop-rest-preserved
unfolding said_from
loop-rest-preserved g c =
    let v = (line_at_ok (c.loop-rest.number + 1) c.loop-rest.place (sited_said (version_at c.loop-rest.place) c.split_line.result.0.now) _ (sym c.in_ok-said.ensures.exact)).2 in
    let so_far = rw (c.split_line.ensures.lines, ← c.in_ok-said.ensures.exact) at c.loop-rest.invariant.so_far in
    record { so_far = rw (c.in_ok-push_bytes.ensures, c.version.ensures, ← v) (grind (arith, append_assoc)); few = omega (arith, c.split_line.ensures.shorter, c.loop-rest.invariant.few) }
