use Rattle.gr_report.proofs.PuttingLemmas.{puts_then, puts_more, puts_err}
use Rattle.gr_report.proofs.fault_text.put_stream.Goals as goal

pub returns-in_err-put_line : goal.returns-in_err-put_line
returns-in_err-put_line g c = puts_err _ c.from_residual.ensures.0 (puts_more _ c.in_err-put_line.ensures)

pub returns : goal.returns
returns g c = puts_then c.in_ok-put_line.ensures c.put_error.ensures
