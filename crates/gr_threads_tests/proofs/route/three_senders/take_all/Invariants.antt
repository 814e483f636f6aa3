use Rattle.gr_model.proofs.Common.{◌≡◌, ℕ, ◌<◌, false, slice_index_or}
use Rattle.gr_model.specs.Prelude.{is_complete}
use Rattle.gr_route.specs.IntakeSeats.{popped_of}
use Rattle.gr_threads_tests.proofs.route.three_senders.take_all.Given as goal

abbrev pub invariant-loop : goal.invariant-loop
invariant-loop g l =
    (l.taker ≡ record l.fn.taker { popped = l.all.items })
    × ((k : ℕ) → k < 3 → slice_index_or l.ended k false ≡ is_complete (popped_of l.taker k))
