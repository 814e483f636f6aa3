use Rattle.gr_model.proofs.Common.{arith}
use Rattle.gr_record.proofs.Consuming.{Consumes-then, Consumes-end}
use Rattle.gr_record.proofs.input.read_all.Goals as goal

pub loop-preserved : goal.loop-preserved
loop-preserved g c =
    rw c.in_ok-keep-in-Ok.ensures (Consumes-then _ _ _ _ _ c.loop.invariant c.in-Ok.ensures.bytes.0)

pub returns-in-Ok-eq0-clause-bytes : goal.returns-in-Ok-eq0-clause-bytes
returns-in-Ok-eq0-clause-bytes g c =
    let h = c.in-Ok-eq0.ensures.bytes in
    Consumes-end _ _ (g.T.Read.remaining c.read.new.self) c.loop.bytes.items c.read.new.buf _ c.loop.invariant h.0 c.in-Ok-eq0.field-0-test (h.1 c.in-Ok-eq0.field-0-test (omega arith))
