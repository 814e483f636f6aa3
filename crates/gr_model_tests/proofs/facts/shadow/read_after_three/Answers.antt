use Rattle.gr_model.proofs.Common.{arith}
use Rattle.gr_model_tests.proofs.States.{one}
use Rattle.gr_model_tests.proofs.facts.shadow.read_after_three.Goals as goal

pub returns-clause-count : goal.returns-clause-count
returns-clause-count g c =
    omega (arith, c.in_ok-read.ensures.clock one, c.in_ok-tick.ensures.ok.counts one, c.in_ok-tick-2.ensures.ok.counts one, c.in_ok-tick-3.ensures.ok.counts one)
