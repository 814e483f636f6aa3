use Rattle.gr_model.proofs.Common.{sym, ◌∙◌}
use Rattle.gr_places.proofs.NamingLemmas.{none_said, one_said}
use Rattle.gr_places.proofs.naming.word_said.Goals as goal

pub returns-in_err-line : goal.returns-in_err-line
returns-in_err-line c = rw c.from_residual.ensures (none_said c.args.lines.now c.args.text.now (sym c.line_said.ensures ∙ c.in_err-line.was))

pub returns : goal.returns
returns c = one_said c.args.lines.now c.args.text.now c.in_ok-line.line (sym c.line_said.ensures ∙ c.in_ok-line.was) c.word_in.result c.word_in.ensures
