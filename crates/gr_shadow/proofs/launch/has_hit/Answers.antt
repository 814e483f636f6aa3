use Rattle.gr_model.proofs.Common.{sym, ◌∙◌}
use Rattle.gr_shadow.proofs.LaunchLemmas.{none_hit}
use Rattle.gr_shadow.proofs.launch.has_hit.Goals as goal

pub returns-in-Some : goal.returns-in-Some
returns-in-Some g c accesses stands none w hit = none_hit accesses _ (rw c.in-Some.is at stands) (sym c.has_hit.ensures ∙ none) w hit
