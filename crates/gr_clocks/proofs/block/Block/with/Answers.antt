use Rattle.gr_model.proofs.Common.{rules}
use Rattle.gr_clocks.proofs.BlockLemmas.{with_block}
use Rattle.gr_clocks.proofs.block.Block.with.Goals as goal

pub invariant_of-result : goal.invariant_of-result
invariant_of-result g c = rw c.max.ensures (with_block {place = c.args.item} c.self.invariant c.requires (search rules))
