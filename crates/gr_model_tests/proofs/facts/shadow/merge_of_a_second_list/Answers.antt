use Rattle.gr_model.proofs.Common.{inr, refl, arith}
use Rattle.gr_model.specs.declared.event.Word.TheVariants.{Global as GlobalWord}
use Rattle.gr_model_tests.proofs.facts.shadow.merge_of_a_second_list.Goals as goal

pub prove-unreachable-requires : goal.prove-unreachable-requires
prove-unreachable-requires c =
    let there = (c.in_ok-words.ensures.exact (GlobalWord 4)).1 (inr (0, omega arith, refl)) in
    grind (arith, there.1)
