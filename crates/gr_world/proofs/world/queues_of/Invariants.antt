use Rattle.gr_model.proofs.Common.{◌≡◌, replicate}
use Rattle.gr_world.specs.Queues.{empty_queue}
use Rattle.gr_world.proofs.world.queues_of.Given as goal

abbrev pub invariant-loop : goal.invariant-loop
invariant-loop g l = l.queues.items ≡ replicate l.counter (empty_queue l.places)
