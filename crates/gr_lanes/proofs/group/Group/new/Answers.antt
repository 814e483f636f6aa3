use Rattle.gr_lanes.proofs.KeptLemmas.{new_kept}
use Rattle.gr_lanes.proofs.group.Group.new.Goals as goal

pub invariant_of-result : goal.invariant_of-result
invariant_of-result g c = rw c.new.ensures (new_kept c.args.size c.new-3.result.items c.new-2.result.items c.new-2.ensures.items)
