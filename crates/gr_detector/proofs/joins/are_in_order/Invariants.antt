use Rattle.gr_model.proofs.Common.{◌≡◌, ◌<◌, ℕ, get_or}
use Rattle.gr_route.specs.IntakeSeats.{Seat}
use Rattle.gr_detector.proofs.joins.are_in_order.Given as goal

abbrev pub invariant-loop-place : goal.invariant-loop-place
invariant-loop-place g l = (k : ℕ) (d : Seat) → k < l.place → (get_or l.receipts k d).group ≡ k
