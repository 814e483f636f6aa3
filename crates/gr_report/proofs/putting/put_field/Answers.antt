use Rattle.gr_report.specs.Putting.{field}
use Rattle.gr_report.proofs.PuttingLemmas.{puts_then, puts_more, puts_err}
use Rattle.gr_report.proofs.putting.put_field.Goals as goal

pub returns-in_err-put : goal.returns-in_err-put
unfolding field
returns-in_err-put g c = puts_err _ c.from_residual.ensures.0 (puts_more _ c.in_err-put.ensures.puts)

pub returns : goal.returns
unfolding field
returns g c = puts_then c.in_ok-put.ensures.puts (rw (← c.format.ensures.text, ← c.as_bytes.ensures.value) c.put-2.ensures.puts)
