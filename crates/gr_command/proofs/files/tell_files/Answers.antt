use Rattle.gr_model.proofs.Common.{inr, err_from_is_err_and}
use Rattle.gr_command.proofs.StreamLemmas.{writing_fault}
use Rattle.gr_command.proofs.files.tell_files.Goals as goal

pub returns-in_err-write_text-clause-fault : goal.returns-in_err-write_text-clause-fault
returns-in_err-write_text-clause-fault g c =
    let p = err_from_is_err_and c.from_residual-in_err-write_text.result c.from_residual-in_err-write_text.ensures.1 in
    let told = c.in_ok-told.ensures.told in
    rw (p.1, p.2, c.in_err-write_text.ensures.fault)
    (inr (inr (record { sides = told.sides; files = told.files; opened = told.opened; said = told.said; say = told.say; shown = writing_fault _ })))
