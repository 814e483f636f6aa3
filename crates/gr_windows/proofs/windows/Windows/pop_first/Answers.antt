use Rattle.gr_model.proofs.Common.{drop}
use Rattle.gr_windows.proofs.WindowLemmas.{row_writes}
use Rattle.gr_windows.proofs.windows.Windows.pop_first.Goals as goal

pub returns : goal.returns
returns g c = row_writes c.self.view_is c.requires c.from.ensures c.index_mut.ensures.value (λ l. drop 1 l) c.pop_first.new.self c.pop_first.ensures
