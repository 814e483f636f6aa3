use Rattle.gr_model.proofs.Common.{◌≡◌, ◌<◌, ◌++◌, ℕ, List, length, IsTrue, IfOk, slice_index_or, into_iter_items, into_iter_len}
use Rattle.gr_model.specs.Prelude.{Lists, WordBelow}
use Rattle.gr_route.specs.WorkRule.{is_stopped}
use Rattle.gr_route.specs.WorkSeats.{Giver}
use Rattle.gr_sequencer_thread.specs.Feeds.{given_of, works_of}
use Rattle.gr_shadow.specs.Clashes.{ClockedAccess}
use Rattle.gr_detector.specs.Runs.{worker_queues}
use Rattle.gr_detector.specs.Settling.{IsHitAmong}
use Rattle.gr_detector.proofs.joins.settle_all.Given as goal

abbrev pub invariant-loop-worker : goal.invariant-loop-worker
invariant-loop-worker g l =
    (worker_queues (into_iter_items l.worker-iterator) ≡ works_of (into_iter_items l.left))
    × (into_iter_len l.worker-iterator ≡ length (into_iter_items l.worker-iterator))
    × ((seen : List (List ClockedAccess)) × (seen ++ given_of (into_iter_items l.left) ≡ given_of l.fn.outlets.items) × IfOk l.words (λ v. Lists WordBelow (IsHitAmong seen) v.items))
    × ((k : ℕ) (d : Giver g.row.A.Denot) → k < length (into_iter_items l.left) → IsTrue (is_stopped (slice_index_or (into_iter_items l.left) k d).pushed))
