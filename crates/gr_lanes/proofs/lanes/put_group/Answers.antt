use Rattle.gr_model.proofs.Common.{◌∙◌, ℕ, set, ap, arith}
use Rattle.gr_model.specs.Prelude.{put}
use Rattle.gr_model.proofs.PutLemmas.{puts_last, puts_more}
use Rattle.gr_lanes.specs.Indices.{empty}
use Rattle.gr_lanes.proofs.lanes.put_group.Goals as goal

pub loop-alloc-preserved : goal.loop-alloc-preserved
loop-alloc-preserved g c = puts_more (empty 0) c.loop-alloc.groups.items c.push.new.self.items c.args.group c.new.result c.args.groups.now.items c.loop-alloc.invariant (omega (arith, c.loop-alloc-test.true, c.from.ensures)) c.new.ensures c.in_ok-push.ensures.items

pub returns : goal.returns
returns g c =
    ap (λ (p : ℕ). set c.loop-alloc.groups.items p c.new-added.result) c.from-2.ensures
    ∙ (puts_last (empty 0) c.loop-alloc.groups.items c.args.group c.new-added.result c.args.groups.now.items c.loop-alloc.invariant (omega (arith, c.loop-alloc-test.false, c.from.ensures)) ∙ ap (put (empty 0) c.args.groups.now.items c.args.group) c.new-added.ensures)
