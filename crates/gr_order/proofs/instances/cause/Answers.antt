use Rattle.gr_lanes.proofs.InstanceLemmas.{not_divergent}
use Rattle.gr_order.proofs.instances.cause.Goals as goal

pub returns-then-none_differs : goal.returns-then-none_differs
returns-then-none_differs g c = not_divergent c.args.lanes.now.streams c.args.group c.args.number (c.none_differs.ensures c.if-none_differs.true)
