use Rattle.gr_model.specs.Prelude.{IsDivergence}
use Rattle.gr_barriers.specs.Listings.{AreListedBefore}
use Rattle.gr_order.proofs.instances.divergences.Given as goal

abbrev pub invariant-loop-group : goal.invariant-loop-group
invariant-loop-group g l = AreListedBefore (IsDivergence l.lanes.streams) l.group 0 l.list.items
