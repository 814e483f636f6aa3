use Rattle.gr_model.proofs.Common.{arith}
use Rattle.gr_model_tests.proofs.States.{orders_nothing}
use Rattle.gr_model_tests.proofs.facts.clocks.meet_of_global_memory.Goals as goal

pub prove-unreachable-requires : goal.prove-unreachable-requires
prove-unreachable-requires c =
    let none = orders_nothing _ c.in_ok-clocks.ensures _ c.in_ok-meet.ensures.ok in
    grind (arith, none)
