use Rattle.gr_model.proofs.Common.{arith}
use Rattle.gr_model_tests.proofs.States.{hit_by_write}
use Rattle.gr_model_tests.proofs.facts.shadow.apply_of_a_write_behind_two_reads.Goals as goal

pub prove-unreachable-requires : goal.prove-unreachable-requires
prove-unreachable-requires c =
    let kept = c.in_ok-apply-2.ensures.stands _ (c.in_ok-apply.ensures.stands _ c.new-shadows.ensures) in
    let e = (c.in_ok-answer.ensures.word _ kept _).1 (hit_by_write _ _ _ (c.in_ok-first.ensures.word, c.in_ok-first.ensures.item, c.in_ok-first.ensures.index, c.in_ok-first.ensures.class, c.in_ok-first.ensures.clock) (c.in_ok-second.ensures.word, c.in_ok-second.ensures.item, c.in_ok-second.ensures.index, c.in_ok-second.ensures.class, c.in_ok-second.ensures.clock) (c.in_ok-write.ensures.word, c.in_ok-write.ensures.item, c.in_ok-write.ensures.index, c.in_ok-write.ensures.class, c.in_ok-write.ensures.clock)) in
    grind (arith, e)
