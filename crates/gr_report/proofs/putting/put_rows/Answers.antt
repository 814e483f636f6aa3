use Rattle.gr_report.proofs.PuttingLemmas.{puts_err, lines_next, lines_fail}
use Rattle.gr_report.proofs.putting.put_rows.Goals as goal

pub loop-row-preserved : goal.loop-row-preserved
loop-row-preserved g c = lines_next g.T.Row.line c.args.rows.now _ c.row-item.result _ _ _ _ c.loop-row.invariant c.loop-row-test.true c.row-item.is _ c.in_ok-put.ensures

pub returns-in_err-put : goal.returns-in_err-put
returns-in_err-put g c = puts_err _ c.from_residual.ensures.0 (lines_fail g.T.Row.line c.args.rows.now _ c.row-item.result _ _ _ _ c.loop-row.invariant c.loop-row-test.true c.row-item.is _ c.in_err-put.ensures)
