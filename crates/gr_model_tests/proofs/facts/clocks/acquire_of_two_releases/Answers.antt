use Rattle.gr_model.proofs.Common.{arith}
use Rattle.gr_model_tests.proofs.States.{learns_of_both}
use Rattle.gr_model_tests.proofs.facts.clocks.acquire_of_two_releases.Goals as goal

pub prove-unreachable-requires : goal.prove-unreachable-requires
prove-unreachable-requires c =
    let some = learns_of_both _ _ _ _ _ c.in_ok-first.ensures.snapshot.word c.in_ok-second.ensures.snapshot.word c.in_ok-second.ensures.ok c.in_ok-second.ensures.snapshot.counts c.in_ok-acquire.ensures.ok in
    grind (arith, some)
