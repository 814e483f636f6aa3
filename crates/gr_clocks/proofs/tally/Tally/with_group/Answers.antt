use Rattle.gr_model.proofs.Common.{◌<◌, ◌≤◌, [], length, arith}
use Rattle.gr_model.proofs.PutLemmas.{puts_last, puts_more}
use Rattle.gr_clocks.proofs.TallyLemmas.{adds_counts}
use Rattle.gr_clocks.proofs.tally.Tally.with_group.Goals as goal

pub loop-alloc-preserved : goal.loop-alloc-preserved
loop-alloc-preserved g c =
    let rows = c.loop-alloc.rows.items in
    let over : length rows ≤ c.args.group = omega (arith, c.loop-alloc-test.true) in
    puts_more [] rows c.push.new.self.items c.args.group c.in_ok-zero.field-0 c.args.self c.loop-alloc.invariant over c.in_ok-zero.ensures.zero c.in_ok-push.ensures.items

pub returns-clause-adds : goal.returns-clause-adds
returns-clause-adds g c =
    let rows = c.loop-alloc.rows.items in
    let there : c.args.group < length rows = omega (arith, c.loop-alloc-test.false) in
    adds_counts c.args.self c.args.group c.args.items c.in_ok-added.added _ c.requires c.in_ok-added.ensures.zero (puts_last [] rows c.args.group c.in_ok-added.added c.args.self c.loop-alloc.invariant there)
