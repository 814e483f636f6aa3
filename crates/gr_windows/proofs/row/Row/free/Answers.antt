use Rattle.gr_model.proofs.Common.{◌∙◌, ap}
use Rattle.gr_windows.specs.Rows.{padded}
use Rattle.gr_windows.proofs.RowLemmas.{none_kept}
use Rattle.gr_windows.proofs.row.Row.free.Goals as goal

pub returns : goal.returns
returns g c = ap (padded c.self.inside.size) (c.shrink_to_fit.ensures.items ∙ c.clear.ensures.items) ∙ none_kept c.self.invariant c.self.view_is c.if-self-ne0.false
