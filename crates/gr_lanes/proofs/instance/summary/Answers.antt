use Rattle.gr_model.proofs.Common.{sym}
use Rattle.gr_model.specs.Prelude.{arrivals}
use Rattle.gr_lanes.proofs.instance.summary.Goals as goal

pub loop-item-init : goal.loop-item-init
loop-item-init g c = c.new-summary.ensures (arrivals c.args.lanes.now.streams c.args.group c.args.number)

pub loop-item-preserved : goal.loop-item-preserved
loop-item-preserved g c = c.adding-summary.ensures c.loop-item.item (arrivals c.args.lanes.now.streams c.args.group c.args.number) c.loop-item.invariant (sym c.arrival.ensures)
