use Rattle.gr_model.proofs.Common.{length, ap, arith}
use Rattle.gr_barriers.specs.Arrived.{IsDivergence}
use Rattle.gr_barriers.proofs.Listing.{all_listed}
use Rattle.gr_barriers.proofs.instances.Instances.divergences.Goals as goal

pub returns : goal.returns
returns g c = all_listed (IsDivergence c.args.self.now) c.loop-group.group c.loop-group.list.items (λ d is. omega (arith, is.group, ap length c.self.view_is, c.self.inside.groups.ok.0, c.loop-group-test.false)) c.loop-group.invariant
