use Rattle.gr_model.proofs.Common.{sym}
use Rattle.gr_barriers.specs.Arrived.{brought}
use Rattle.gr_barriers.proofs.group.Group.summary.Goals as goal

pub loop-item-init : goal.loop-item-init
loop-item-init g c = c.new-summary.ensures (brought c.args.self.now c.args.instance)

pub loop-item-preserved : goal.loop-item-preserved
loop-item-preserved g c = c.adding-summary.ensures c.loop-item.item (brought c.args.self.now c.args.instance) c.loop-item.invariant (sym c.arrival.ensures)
