use Rattle.gr_model.proofs.Common.{codes}
use Rattle.gr_report.specs.FaultText.{fault_text}
use Rattle.gr_report.proofs.PuttingLemmas.{puts_then, puts_more, puts_err}
use Rattle.gr_report.proofs.fault_text.put_fault.Goals as goal

pub returns-in_err-put : goal.returns-in_err-put
returns-in_err-put g c = puts_err _ c.from_residual.ensures.0 (puts_more (codes "\n") (puts_more (fault_text c.args.fault) c.in_err-put.ensures.puts))

pub returns-in_err-put_text : goal.returns-in_err-put_text
returns-in_err-put_text g c = puts_err _ c.from_residual-in_err-put_text.ensures.0 (puts_more (codes "\n") (puts_then c.in_ok-put.ensures.puts c.in_err-put_text.ensures))

pub returns : goal.returns
returns g c = puts_then (puts_then c.in_ok-put.ensures.puts c.in_ok-put_text.ensures) c.put-2.ensures.puts
