use Rattle.gr_model.proofs.Common.{append_assoc}
use Rattle.gr_report.proofs.report_text.put_end.Goals as goal

pub returns : goal.returns
returns g c = simp append_assoc (rw (c.as_slice.ensures, c.as_slice-2.ensures, c.as_slice-3.ensures) at c.put_line.ensures)
