use Rattle.gr_model.proofs.Common.{◌≡◌, ◌≤◌, ◌+◌, ◌++◌, vec_len, vec_capacity, into_iter_items, into_iter_len}
use Rattle.gr_detector.proofs.start.start_all.Given as goal

abbrev pub invariant-loop-worker : goal.invariant-loop-worker
invariant-loop-worker g l =
    (l.threads.items ++ into_iter_items l.worker-iterator ≡ l.fn.workers.items)
    × (vec_len l.threads + into_iter_len l.worker-iterator ≡ vec_len l.fn.workers)
    × (vec_len l.fn.workers ≤ vec_capacity l.threads)
