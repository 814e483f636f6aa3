use Rattle.gr_model.proofs.Common.{arith}
use Rattle.gr_sequencer.proofs.known.Known.new.Goals as goal

pub returns : goal.returns
returns g c = grind (arith, c.in-Ok.is, c.new.ensures.zero)
