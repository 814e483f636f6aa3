use Rattle.gr_races.proofs.RelaxingLemmas.{still_all_accepted}
use Rattle.gr_races.proofs.laws.relaxed_lists_are_accepted.Goals as goal

pub returns : goal.returns
returns c = still_all_accepted
