use Rattle.gr_model.proofs.Common.{arith}
use Rattle.gr_explain.proofs.RacePairs.{clashes_are_race, race_clashes}
use Rattle.gr_explain.proofs.judging.judgement_of.Goals as goal

pub returns-in-Some-Some : goal.returns-in-Some-Some
returns-in-Some-Some g c s accesses kept = grind (arith, kept.first, kept.second, clashes_are_race s c.args.race.now.word c.args.race.now.first c.args.race.now.second c.in-Some-Some.first.now c.in-Some-Some.second.now)

pub returns-in-Some-Some-2 : goal.returns-in-Some-Some-2
returns-in-Some-Some-2 g c s accesses kept = grind (arith, kept.first, kept.second, race_clashes s c.args.race.now.word c.args.race.now.first c.args.race.now.second c.in-Some-Some.first.now c.in-Some-Some.second.now)
