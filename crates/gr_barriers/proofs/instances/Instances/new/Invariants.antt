use Rattle.gr_model.proofs.Common.{◌≡◌, map, take}
use Rattle.gr_barriers.specs.Arrived.{fresh_group}
use Rattle.gr_barriers.proofs.instances.Instances.new.Given as goal

abbrev pub invariant-loop-group : goal.invariant-loop-group
invariant-loop-group g l = l.groups.items ≡ map fresh_group (take l.group l.shape)
