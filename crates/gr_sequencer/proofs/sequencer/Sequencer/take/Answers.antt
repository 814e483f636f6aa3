use Rattle.gr_model.proofs.Common.{arith}
use Rattle.gr_sequencer.proofs.KnownGrowth.{known_takes}
use Rattle.gr_sequencer.proofs.sequencer.Sequencer.take.Goals as goal

pub invariant_of-self : goal.invariant_of-self
invariant_of-self g c = grind (arith, known_takes c.self.inside.agenda c.order-taken.ensures.sequence c.args.group c.args.event c.self.inside.known c.self.invariant)
