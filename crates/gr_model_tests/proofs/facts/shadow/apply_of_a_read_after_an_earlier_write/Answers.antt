use Rattle.gr_model.proofs.Common.{arith}
use Rattle.gr_model_tests.proofs.States.{hit_by_read}
use Rattle.gr_model_tests.proofs.facts.shadow.apply_of_a_read_after_an_earlier_write.Goals as goal

pub prove-unreachable-requires : goal.prove-unreachable-requires
prove-unreachable-requires c =
    let kept = c.in_ok-apply-2.ensures.stands _ (c.in_ok-apply.ensures.stands _ c.new-shadows.ensures) in
    let e = (c.in_ok-answer.ensures.word _ kept _).1 (hit_by_read _ _ _ (c.in_ok-sixth.ensures.word, c.in_ok-sixth.ensures.item, c.in_ok-sixth.ensures.index, c.in_ok-sixth.ensures.class, c.in_ok-sixth.ensures.clock) (c.in_ok-third.ensures.word, c.in_ok-third.ensures.item, c.in_ok-third.ensures.index, c.in_ok-third.ensures.class, c.in_ok-third.ensures.clock) c.in_ok-read.ensures.word c.in_ok-read.ensures.item c.in_ok-read.ensures.count) in
    grind (arith, e)
