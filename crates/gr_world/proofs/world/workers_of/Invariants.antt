use Rattle.gr_model.proofs.Common.{◌≡◌, replicate}
use Rattle.gr_world.specs.Queues.{no_work}
use Rattle.gr_world.proofs.world.workers_of.Given as goal

abbrev pub invariant-loop : goal.invariant-loop
invariant-loop g l = l.workers.items ≡ replicate l.counter (no_work l.places)
