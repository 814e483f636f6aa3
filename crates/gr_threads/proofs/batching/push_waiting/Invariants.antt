use Rattle.gr_model.proofs.Common.{◌≡◌}
use Rattle.gr_threads.proofs.batching.push_waiting.Given as goal

abbrev pub invariant-loop : goal.invariant-loop
invariant-loop g l = (l.sender ≡ l.initial.sender) × (l.batch ≡ l.initial.batch)
