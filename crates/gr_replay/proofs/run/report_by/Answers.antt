use Rattle.gr_model.proofs.Common.{arith}
use Rattle.gr_replay.proofs.run.report_by.Goals as goal

pub returns-clause-fault : goal.returns-clause-fault
returns-clause-fault g c = grind (arith, c.report.ensures.fault, c.in_ok-take_input.ensures.exact)
