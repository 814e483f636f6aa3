use Rattle.gr_model.proofs.Common.{◌≡◌, ◌<◌, ◌==◌, ℕ, length, filter}
use Rattle.gr_route.specs.IntakeSeats.{Seat}
use Rattle.gr_detector.proofs.joins.has_each_once.Given as goal

abbrev pub invariant-loop-group : goal.invariant-loop-group
invariant-loop-group g l = (k : ℕ) → k < l.group → length (filter (λ (r : Seat). r.group == k) l.receipts) ≡ 1
