use Rattle.gr_model.proofs.Common.{arith}
use Rattle.gr_model.specs.declared.event.Space.TheVariants.{Global}
use Rattle.gr_model_tests.proofs.States.{counts_one, learns_nothing}
use Rattle.gr_model_tests.proofs.facts.clocks.acquire_of_a_global_word.Goals as goal

pub prove-unreachable-requires : goal.prove-unreachable-requires
prove-unreachable-requires c =
    let one = counts_one _ c.in_ok-clocks.ensures Global _ _ c.in_ok-snapshot.ensures.ok c.in_ok-snapshot.ensures.snapshot.counts in
    grind (arith, one)

pub prove-unreachable-requires-2 : goal.prove-unreachable-requires-2
prove-unreachable-requires-2 c =
    let none = learns_nothing _ c.in_ok-clocks.ensures _ _ _ c.in_ok-snapshot.ensures.ok (rw c.in_ok-snapshot.ensures.snapshot.word (λ e. cc)) c.in_ok-acquire.ensures.ok in
    grind (arith, none)
