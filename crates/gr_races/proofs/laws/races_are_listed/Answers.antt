use Rattle.gr_races.proofs.KindLemmas.{each_race_is_in_order, each_race_is_listed_once, every_race_has_a_kind}
use Rattle.gr_races.proofs.laws.races_are_listed.Goals as goal

pub returns : goal.returns
returns c = record { kinds = every_race_has_a_kind; order = each_race_is_in_order; once = each_race_is_listed_once }
