use Rattle.gr_model.proofs.Common.{◌≡◌, ◌<◌, ap, arith, length, rules, vec_len}
use Rattle.gr_model.specs.declared.event.Word.TheVariants as words
use Rattle.gr_threads_tests.proofs.FactLemmas.{some_hit}
use Rattle.gr_threads_tests.proofs.facts.worker.settle_of_two_writes.Goals as goal

pub prove-unreachable-requires : goal.prove-unreachable-requires
prove-unreachable-requires g c =
    let some : 0 < length c.in-Ok.words.items = some_hit c.args.first c.args.second (words.Global 7) _ c.in-Ok.words.items (ap (λ giver. giver.pushed) c.in_ok-giver.ensures.given) c.requires.clash c.in-Ok.ensures in
    let none : vec_len c.in-Ok.words ≡ 0 = search rules in
    omega (arith, some, none)
