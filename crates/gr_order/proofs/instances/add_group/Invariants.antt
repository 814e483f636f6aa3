use Rattle.gr_model.specs.Prelude.{IsDivergence}
use Rattle.gr_barriers.specs.Listings.{AreListedBefore}
use Rattle.gr_order.proofs.instances.add_group.Given as goal

abbrev pub invariant-loop-instance : goal.invariant-loop-instance
invariant-loop-instance g l = AreListedBefore (IsDivergence l.lanes.streams) l.group l.instance l.list.items
