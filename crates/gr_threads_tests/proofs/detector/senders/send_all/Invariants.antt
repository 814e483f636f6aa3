use Rattle.gr_model.proofs.Common.{◌≡◌}
use Rattle.gr_threads_tests.specs.Senders.{IsSameSender}
use Rattle.gr_threads_tests.proofs.detector.senders.send_all.Given as goal

abbrev pub invariant-loop-place : goal.invariant-loop-place
invariant-loop-place g l = IsSameSender l.fn.sender l.sender
