use Rattle.gr_report.proofs.PuttingLemmas.{Prefix-more}
use Rattle.gr_report.proofs.putting.put.Goals as goal

pub loop-rest-preserved : goal.loop-rest-preserved
loop-rest-preserved g c = Prefix-more _ _ _ _ c.loop-rest.rest.now c.in-Ok.n c.loop-rest.invariant c.in-Ok.ensures.bytes
