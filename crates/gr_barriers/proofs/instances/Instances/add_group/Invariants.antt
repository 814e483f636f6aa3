use Rattle.gr_barriers.specs.Arrived.{IsDivergence}
use Rattle.gr_barriers.specs.Listings.{AreListedBefore}
use Rattle.gr_barriers.proofs.instances.Instances.add_group.Given as goal

abbrev pub invariant-loop-instance : goal.invariant-loop-instance
invariant-loop-instance g l = AreListedBefore (IsDivergence l.self) l.group l.instance l.list.items
