use Rattle.gr_model.proofs.Common.{arith}
use Rattle.gr_explain.proofs.accesses.add_pair.Goals as goal

pub returns-clause-others : goal.returns-clause-others
returns-clause-others g c q wanted = record {
  first = grind (arith, wanted.first, c.in_ok-insert.ensures.updates.0 q.first, c.in_ok-insert-2.ensures.updates.0 q.first);
  second = grind (arith, wanted.second, c.in_ok-insert.ensures.updates.0 q.second, c.in_ok-insert-2.ensures.updates.0 q.second);
}
