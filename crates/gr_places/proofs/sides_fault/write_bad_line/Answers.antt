use Rattle.gr_model.proofs.Common.{codes}
use Rattle.gr_report.proofs.PuttingLemmas.{puts_err, puts_kept, puts_more, puts_then}
use Rattle.gr_places.proofs.sides_fault.write_bad_line.Goals as goal

pub returns-in_err-put_field : goal.returns-in_err-put_field
returns-in_err-put_field g c = puts_err _ c.from_residual.ensures.0 (puts_more (codes ": bad line\n") c.in_err-put_field.ensures)

pub returns-in_err-put : goal.returns-in_err-put
returns-in_err-put g c = puts_err _ c.from_residual-in_err-put.ensures.0 (puts_then c.in_ok-put_field.ensures c.in_err-put.ensures.puts)

pub returns : goal.returns
returns g c = puts_kept c.finish.result (puts_then c.in_ok-put_field.ensures c.in_ok-put.ensures.puts) c.finish.ensures
