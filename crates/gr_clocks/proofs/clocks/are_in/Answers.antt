use Rattle.gr_model.proofs.Common.{◌≡◌, rules, sym}
use Rattle.gr_clocks.proofs.ReleaseLemmas.{left_all, left_none, word_of_first}
use Rattle.gr_clocks.proofs.clocks.are_in.Goals as goal

pub returns-in-Some-clause-all : goal.returns-in-Some-clause-all
returns-in-Some-clause-all g c here =
    let one = word_of_first (λ s. s.now) c.args.snapshots.now c.in-Some.first.now (sym c.in-Some.ensures.value) c.requires in
    left_all (λ s. s.now) c.args.memory c.args.snapshots.now
    (λ k d below. let same : c.memory_of.result ≡ c.args.memory = search rules in cc (one k d below))

pub returns-in-Some-clause-none : goal.returns-in-Some-clause-none
returns-in-Some-clause-none g c away =
    let one = word_of_first (λ s. s.now) c.args.snapshots.now c.in-Some.first.now (sym c.in-Some.ensures.value) c.requires in
    left_none (λ s. s.now) c.args.memory c.args.snapshots.now
    (λ k d below same. let is : c.memory_of.result ≡ c.args.memory = cc (one k d below) in search rules)
