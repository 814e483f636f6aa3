use Rattle.gr_model.proofs.Common.{arith}
use Rattle.gr_races.proofs.PartingLemmas.{parted}
use Rattle.gr_races.proofs.parting.are_parted.Goals as goal

pub returns-then-has_divergent : goal.returns-then-has_divergent
returns-then-has_divergent g c = grind (arith, parted c.args.lanes.now.streams c.args.first c.args.second _ _ c.barriers_above-above_first.ensures c.barriers_above-above_second.ensures)

pub returns-else-has_divergent : goal.returns-else-has_divergent
returns-else-has_divergent g c = grind (arith, parted c.args.lanes.now.streams c.args.first c.args.second _ _ c.barriers_above-above_first.ensures c.barriers_above-above_second.ensures)
