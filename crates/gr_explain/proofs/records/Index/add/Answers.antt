use Rattle.gr_model.proofs.Common.{arith, get_or-map, get_or-set_other, get_or-set_same, length-map, map-set, nat_tests}
use Rattle.gr_explain.proofs.records.Index.add.Goals as goal

pub returns-in_ok-push-clause-each : goal.returns-in_ok-push-clause-each
returns-in_ok-push-clause-each g c i lt = grind (arith, nat_tests, get_or-map, length-map, map-set, get_or-set_same, get_or-set_other)
