use Rattle.gr_windows.proofs.WindowLemmas.{one_drop_more}
use Rattle.gr_windows.proofs.windows.Windows.pop_group.Goals as goal

pub loop-item-preserved : goal.loop-item-preserved
loop-item-preserved g c = one_drop_more c.args.self.now c.loop-item.self c.args.group c.loop-item.item c.loop-item.invariant c.pop_first.new.self c.pop_first.ensures
