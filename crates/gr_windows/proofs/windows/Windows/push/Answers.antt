use Rattle.gr_model.proofs.Common.{◌++◌, ◌∷◌, [], on_ok_weaker}
use Rattle.gr_windows.proofs.WindowLemmas.{row_writes}
use Rattle.gr_windows.proofs.windows.Windows.push.Goals as goal

pub returns-clause-ok : goal.returns-clause-ok
returns-clause-ok g c = on_ok_weaker c.push.result (row_writes c.self.view_is c.requires c.from.ensures c.index_mut.ensures.value (λ l. l ++ c.args.event.now ∷ []) c.push.new.self) c.push.ensures.ok
