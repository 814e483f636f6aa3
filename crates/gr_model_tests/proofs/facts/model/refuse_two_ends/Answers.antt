use Rattle.gr_model.proofs.Common.{refl, arith}
use Rattle.gr_model_tests.proofs.States.{ends_twice}
use Rattle.gr_model_tests.proofs.facts.model.refuse_two_ends.Goals as goal

pub prove-unreachable-requires : goal.prove-unreachable-requires
prove-unreachable-requires g c =
    let no = ends_twice _ _ c.requires.group c.requires.ends refl in
    let taken = c.new-traces.ensures.accepted in
    grind (arith, no, taken)
