use Rattle.gr_barriers.specs.Arrived.{IsDivergence}
use Rattle.gr_barriers.specs.Listings.{AreListedBefore}
use Rattle.gr_barriers.proofs.instances.Instances.divergences.Given as goal

abbrev pub invariant-loop-group : goal.invariant-loop-group
invariant-loop-group g l = AreListedBefore (IsDivergence l.self) l.group 0 l.list.items
