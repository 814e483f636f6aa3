use Rattle.gr_model.proofs.Common.{arith, nat_tests}
use Rattle.std.proofs.lemmas.List.Sorted.{IsNonDecreasingBy-from_sort, IsNonDecreasingBy-push}
use Rattle.gr_explain.proofs.IndexLemmas.{one_more}
use Rattle.gr_explain.proofs.indices.Indices.add.Goals as goal

pub invariant_of-self-then-not-is_last : goal.invariant_of-self-then-not-is_last
invariant_of-self-then-not-is_last g c = IsNonDecreasingBy-from_sort (λ x. x) c.sort_unstable.new.self.items c.sort_unstable.ensures.sorted

pub invariant_of-self-else-not-is_last : goal.invariant_of-self-else-not-is_last
invariant_of-self-else-not-is_last g c = rw c.in_ok-push.ensures.items (IsNonDecreasingBy-push (λ x. x) c.self.inside.ascending.items c.args.index c.self.invariant (λ d some. grind (arith, nat_tests, c.last.ensures.item, c.is_none_or-is_last.ensures, c.if-not-is_last.false)))

pub returns-then-not-is_last : goal.returns-then-not-is_last
returns-then-not-is_last g c n = rw (← c.self.view_is) (one_more c.self.inside.ascending.items c.sort_unstable.new.self.items c.args.index n (rw c.in_ok-push.ensures.items at c.sort_unstable.ensures.permutation))
