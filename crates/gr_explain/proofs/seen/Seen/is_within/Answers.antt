use Rattle.gr_model.proofs.Common.{arith, nat_tests}
use Rattle.gr_explain.proofs.SeenLemmas.{among_found}
use Rattle.gr_explain.proofs.seen.Seen.is_within.Goals as goal

pub returns-then-first-group : goal.returns-then-first-group
returns-then-first-group g c last e among = grind (arith, nat_tests, among_found c.args.self.now.items e among, c.in-Some-Some.ensures.least e.at, c.in-Some-Some.ensures'.greatest e.at)
