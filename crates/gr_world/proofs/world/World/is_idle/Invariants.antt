use Rattle.gr_model.proofs.Common.{◌≡◌, ℕ, ◌<◌, [], slice_index_or}
use Rattle.gr_world.specs.Queues.{Work}
use Rattle.gr_world.proofs.world.World.is_idle.Given as goal

abbrev pub invariant-loop-worker : goal.invariant-loop-worker
invariant-loop-worker g l = (k : ℕ) (d : Work) → k < l.worker-index → (slice_index_or l.worker-items k d).queue.items ≡ []
