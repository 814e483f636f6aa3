use Rattle.gr_report.proofs.PuttingLemmas.{ended_is, puts_then, puts_more, puts_err}
use Rattle.gr_report.proofs.putting.put_line.Goals as goal

pub returns-in_err-put_rows : goal.returns-in_err-put_rows
returns-in_err-put_rows g c = rw ended_is (puts_err _ c.from_residual.ensures.0 (puts_more _ c.in_err-put_rows.ensures))

pub returns : goal.returns
returns g c = rw ended_is (puts_then c.in_ok-put_rows.ensures c.put.ensures.puts)
