use Rattle.gr_model.proofs.Common.{◌≡◌}
use Rattle.gr_threads.proofs.sender.Sender.close_wait.Given as goal

abbrev pub invariant-loop : goal.invariant-loop
invariant-loop g l = l.self ≡ l.fn.self
