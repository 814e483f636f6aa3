use Rattle.gr_route.proofs.PrefixLemmas.{end_makes_whole, end_makes_accepted}
use Rattle.gr_route.proofs.laws.end_makes_whole.Goals as goal

pub returns-clause-whole : goal.returns-clause-whole
returns-clause-whole c = end_makes_whole

pub returns-clause-accepted : goal.returns-clause-accepted
returns-clause-accepted c = end_makes_accepted
