use Rattle.gr_model.proofs.ClassLemmas.{exemption_told}
use Rattle.gr_model.proofs.class_laws.classes_tell_conflicts.Goals as goal

pub returns-clause-exempt : goal.returns-clause-exempt
returns-clause-exempt c = exemption_told
