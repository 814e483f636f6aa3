use Rattle.gr_model.proofs.Common.{append_assoc}
use Rattle.gr_report.proofs.report_text.put_head.Goals as goal

pub returns : goal.returns
returns g c = simp append_assoc (rw (c.from.ensures, c.from-2.ensures) at c.put_line.ensures)
