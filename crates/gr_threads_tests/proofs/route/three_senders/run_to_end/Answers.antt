use Rattle.gr_model.proofs.Common.{rules, ◌≡◌}
use Rattle.gr_model.specs.Prelude.{events_of}
use Rattle.gr_threads_tests.specs.Sent.{stream_of}
use Rattle.gr_threads_tests.proofs.RunLemmas.{each_of_three}
use Rattle.gr_threads_tests.proofs.route.three_senders.run_to_end.Goals as goal

pub returns : goal.returns
returns g c = each_of_three (λ k. events_of k c.in_ok-all.all.items ≡ stream_of c.args.count) (search rules) (search rules) (search rules)
