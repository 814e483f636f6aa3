use Rattle.gr_model.proofs.Common.{drop, flat_map}
use Rattle.gr_report.proofs.PuttingLemmas.{Prefix}
use Rattle.gr_report.proofs.putting.put_rows.Given as goal

abbrev pub invariant-loop-row : goal.invariant-loop-row
invariant-loop-row g l =
    Prefix (g.W.Write.contents l.initial.writer) (g.W.Write.contents l.writer) (flat_map g.T.Row.line l.rows) (flat_map g.T.Row.line (drop l.row-index l.rows))
