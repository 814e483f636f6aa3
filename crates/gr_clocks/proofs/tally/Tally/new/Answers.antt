use Rattle.gr_model.proofs.Common.{arith}
use Rattle.gr_clocks.proofs.BlockLemmas.{zero_base}
use Rattle.gr_clocks.proofs.tally.Tally.new.Goals as goal

pub returns-clause-zero : goal.returns-clause-zero
returns-clause-zero g c = zero_base c.args.shape.now c.loop-group.rows.items (omega arith) (λ p below. c.loop-group.invariant.zero p (omega arith))
