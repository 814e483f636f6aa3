use Rattle.gr_model.proofs.Common.{length, ap, arith}
use Rattle.gr_model.specs.Prelude.{IsDivergence}
use Rattle.gr_barriers.proofs.Listing.{all_listed}
use Rattle.gr_order.proofs.instances.divergences.Goals as goal

pub returns : goal.returns
returns g c = all_listed (IsDivergence c.args.lanes.now.streams) c.loop-group.group c.loop-group.list.items (λ d is. omega (arith, is.group, ap length c.shape.ensures.sizes, c.loop-group-test.false)) c.loop-group.invariant
