use Rattle.gr_model.proofs.ReportLaws.{one_report}
use Rattle.gr_model.proofs.laws.lists_have_one_report.Goals as goal

pub returns : goal.returns
returns c = one_report
