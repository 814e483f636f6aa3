use Rattle.gr_model.proofs.Common.{arith}
use Rattle.gr_model_tests.proofs.States.{none_came, is_refused}
use Rattle.gr_model_tests.proofs.facts.barriers.arrive_behind_the_end.Goals as goal

pub arrive-answer-requires : goal.arrive-answer-requires
arrive-answer-requires c = omega (arith, none_came _ _ c.in_ok-instances.ensures.new c.in_ok-end_group.ensures.ok)

pub prove-unreachable-requires : goal.prove-unreachable-requires
prove-unreachable-requires c =
    let e = is_refused _ _ c.in_ok-instances.ensures.new c.in_ok-end_group.ensures.ok _ c.arrive-answer.ensures.ended in
    grind (arith, e)
