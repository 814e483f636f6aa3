use Rattle.gr_closure.proofs.Adding.{handled_adds, met_add_none, others_add_none}
use Rattle.gr_closure.proofs.hit_laws.steps_add_accesses.Goals as goal

pub returns : goal.returns
returns c = record { handle = handled_adds; other = others_add_none; meet = met_add_none }
