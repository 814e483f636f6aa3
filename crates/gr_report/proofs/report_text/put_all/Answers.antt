use Rattle.gr_report.proofs.PuttingLemmas.{puts_then, puts_more, puts_err}
use Rattle.gr_report.proofs.report_text.put_all.Goals as goal

pub returns-in_err-put_head : goal.returns-in_err-put_head
returns-in_err-put_head g c = puts_err _ c.from_residual.ensures.0 (puts_more _ (puts_more _ (puts_more _ (puts_more _ (puts_more _ c.in_err-put_head.ensures)))))

pub returns-in_err-put_rows : goal.returns-in_err-put_rows
returns-in_err-put_rows g c = puts_err _ c.from_residual-in_err-put_rows.ensures.0 (puts_more _ (puts_more _ (puts_more _ (puts_more _ (puts_then c.in_ok-put_head.ensures (rw c.as_slice.ensures at c.in_err-put_rows.ensures))))))

pub returns-in_err-put_rows-2 : goal.returns-in_err-put_rows-2
returns-in_err-put_rows-2 g c = puts_err _ c.from_residual-in_err-put_rows-2.ensures.0 (puts_more _ (puts_more _ (puts_more _ (puts_then (puts_then c.in_ok-put_head.ensures (rw c.as_slice.ensures at c.in_ok-put_rows.ensures)) (rw c.as_slice-2.ensures at c.in_err-put_rows-2.ensures)))))

pub returns-in_err-put_rows-3 : goal.returns-in_err-put_rows-3
returns-in_err-put_rows-3 g c = puts_err _ c.from_residual-in_err-put_rows-3.ensures.0 (puts_more _ (puts_more _ (puts_then (puts_then (puts_then c.in_ok-put_head.ensures (rw c.as_slice.ensures at c.in_ok-put_rows.ensures)) (rw c.as_slice-2.ensures at c.in_ok-put_rows-2.ensures)) (rw c.as_slice-3.ensures at c.in_err-put_rows-3.ensures))))

pub returns-in_err-put_rows-4 : goal.returns-in_err-put_rows-4
returns-in_err-put_rows-4 g c = puts_err _ c.from_residual-in_err-put_rows-4.ensures.0 (puts_more _ (puts_then (puts_then (puts_then (puts_then c.in_ok-put_head.ensures (rw c.as_slice.ensures at c.in_ok-put_rows.ensures)) (rw c.as_slice-2.ensures at c.in_ok-put_rows-2.ensures)) (rw c.as_slice-3.ensures at c.in_ok-put_rows-3.ensures)) (rw c.as_slice-4.ensures at c.in_err-put_rows-4.ensures)))

pub returns : goal.returns
returns g c = puts_then (puts_then (puts_then (puts_then (puts_then c.in_ok-put_head.ensures (rw c.as_slice.ensures at c.in_ok-put_rows.ensures)) (rw c.as_slice-2.ensures at c.in_ok-put_rows-2.ensures)) (rw c.as_slice-3.ensures at c.in_ok-put_rows-3.ensures)) (rw c.as_slice-4.ensures at c.in_ok-put_rows-4.ensures)) c.put_end.ensures
