use Rattle.gr_model.proofs.Common.{◌≡◌}
use Rattle.gr_threads_tests.specs.Sent.{writes_below}
use Rattle.gr_threads_tests.proofs.route.three_senders.send_stream.Given as goal

abbrev pub invariant-loop-word : goal.invariant-loop-word
invariant-loop-word g l = l.sender ≡ record l.fn.sender { sent = writes_below l.word }
