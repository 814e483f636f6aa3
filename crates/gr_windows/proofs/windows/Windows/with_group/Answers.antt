use Rattle.gr_model.proofs.Common.{[], arith}
use Rattle.gr_model.proofs.PutLemmas.{puts_last, puts_more}
use Rattle.gr_windows.proofs.WindowLemmas.{adds_items}
use Rattle.gr_windows.proofs.windows.Windows.with_group.Goals as goal

pub loop-alloc-preserved : goal.loop-alloc-preserved
loop-alloc-preserved g c = puts_more [] c.loop-alloc.rows.items c.push.new.self.items c.args.group c.new.result c.args.self c.loop-alloc.invariant (omega (arith, c.loop-alloc-test.true, c.from.ensures)) c.new.ensures c.in_ok-push.ensures.items

pub returns : goal.returns
returns g c = rw c.from-2.ensures (adds_items c.args.self c.args.group c.args.items c.new-added.result _ c.requires c.new-added.ensures (puts_last [] c.loop-alloc.rows.items c.args.group c.new-added.result c.args.self c.loop-alloc.invariant (omega (arith, c.loop-alloc-test.false, c.from.ensures))))
