use Rattle.gr_model.proofs.Common.{◌-◌, length, take}
use Rattle.gr_windows.proofs.WindowLemmas.{row_writes}
use Rattle.gr_windows.proofs.windows.Windows.pop_last.Goals as goal

pub returns : goal.returns
returns g c = row_writes c.self.view_is c.requires c.from.ensures c.index_mut.ensures.value (λ l. take (length l - 1) l) c.pop_last.new.self c.pop_last.ensures
