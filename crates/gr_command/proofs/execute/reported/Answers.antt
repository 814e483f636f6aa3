use Rattle.gr_command.proofs.execute.reported.Goals as goal

pub returns-in-Ok : goal.returns-in-Ok
returns-in-Ok c = rw c.in-Ok.is c.status_of_report.ensures
