use Rattle.gr_model.proofs.Common.{arith}
use Rattle.gr_model.proofs.Descent.{lawful_is_grounded}
use Rattle.gr_model.proofs.HitsAreRaces.{hit_is_race, race_is_hit}
use Rattle.gr_model.proofs.laws.hits_are_races.Goals as goal

pub returns-clause-within : goal.returns-clause-within
returns-clause-within c s order w lawful = (hit_is_race s order w lawful, race_is_hit s order w)

pub returns-clause-whole : goal.returns-clause-whole
returns-clause-whole c s order w whole =
    grind (arith, hit_is_race s order w whole.lawful, race_is_hit s order w, lawful_is_grounded s order, whole.lawful, whole.whole)
