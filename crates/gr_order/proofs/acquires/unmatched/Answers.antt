use Rattle.gr_model.proofs.Common.{length, ap, arith}
use Rattle.gr_order.proofs.Acquiring.{all_found}
use Rattle.gr_order.proofs.acquires.unmatched.Goals as goal

pub returns : goal.returns
returns g c = all_found c.args.lanes.now.streams c.loop-group.group 0 c.loop-group.list.items c.loop-group.invariant c.shape.ensures.prefixes (omega (arith, ap length c.shape.ensures.sizes))
