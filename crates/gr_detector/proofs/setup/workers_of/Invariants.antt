use Rattle.gr_model.proofs.Common.{◌≡◌, [], length, All}
use Rattle.gr_route.specs.WorkSeats.{Giver}
use Rattle.gr_sequencer_thread.specs.Feeds.{works_of}
use Rattle.gr_detector.specs.Runs.{worker_queues}
use Rattle.gr_detector.proofs.setup.workers_of.Given as goal

abbrev pub invariant-loop-number : goal.invariant-loop-number
invariant-loop-number g l =
    (length l.outlets.items ≡ l.number) × (length l.workers.items ≡ l.number)
    × (worker_queues l.workers.items ≡ works_of l.outlets.items)
    × All (λ (u : Giver g.row.A.Denot). u.pushed ≡ []) l.outlets.items
