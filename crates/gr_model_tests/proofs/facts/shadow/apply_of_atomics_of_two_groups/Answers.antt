use Rattle.gr_model.proofs.Common.{arith}
use Rattle.gr_model_tests.proofs.States.{hit_by_atomic}
use Rattle.gr_model_tests.proofs.facts.shadow.apply_of_atomics_of_two_groups.Goals as goal

pub prove-unreachable-requires : goal.prove-unreachable-requires
prove-unreachable-requires c =
    let kept = c.in_ok-apply.ensures.stands _ c.new-shadows.ensures in
    let e = (c.in_ok-answer.ensures.word _ kept _).1 (hit_by_atomic _ _ (c.in_ok-first.ensures.word, c.in_ok-first.ensures.item, c.in_ok-first.ensures.index, c.in_ok-first.ensures.class, c.in_ok-first.ensures.clock) (c.in_ok-other.ensures.word, c.in_ok-other.ensures.item, c.in_ok-other.ensures.index, c.in_ok-other.ensures.class, c.in_ok-other.ensures.clock)) in
    grind (arith, e)
