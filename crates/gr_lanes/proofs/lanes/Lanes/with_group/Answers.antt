use Rattle.gr_lanes.proofs.GroupLemmas.{added_groups, added_taken}
use Rattle.gr_lanes.proofs.lanes.Lanes.with_group.Goals as goal

pub invariant_of-result : goal.invariant_of-result
invariant_of-result g c = added_groups c.self.invariant c.self.view_is c.requires c.in_ok-put_group.ensures c.in_ok-shape.ensures

pub returns : goal.returns
returns g c = record { comes = added_taken c.self.invariant c.self.view_is c.requires c.in_ok-put_group.ensures c.in_ok-shape.ensures; prefixes = (invariant_of-result g c).prefixes }
