use Rattle.gr_model.proofs.Common.{◌≡◌, ◌≤◌, ◌+◌, ◌++◌, vec_len, vec_capacity, into_iter_items, into_iter_len}
use Rattle.gr_detector.specs.Runs.{worker_queues}
use Rattle.gr_detector.proofs.stop.join_workers.Given as goal

abbrev pub invariant-loop-worker : goal.invariant-loop-worker
invariant-loop-worker g l =
    (worker_queues l.ends.items ++ worker_queues (into_iter_items l.worker-iterator) ≡ worker_queues l.fn.workers.items)
    × (vec_len l.ends + into_iter_len l.worker-iterator ≡ vec_len l.fn.workers)
    × (vec_len l.fn.workers ≤ vec_capacity l.ends)
