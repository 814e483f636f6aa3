use Rattle.gr_model.proofs.Common.{◌<◌, ◌∙◌, length, arith, IfOk-weaker}
use Rattle.gr_clocks.specs.Groups.{Merges}
use Rattle.gr_clocks.proofs.GroupLemmas.{merges_met, merges_from, merges_kept, merges_more}
use Rattle.gr_clocks.proofs.group.Group.merged.Goals as goal
use Rattle.gr_clocks.proofs.group.Group.merged.Goals.{then-index+in_ok-base-2, else-index}

pub returns-in_default-clause-merged : goal.returns-in_default-clause-merged
returns-in_default-clause-merged g c =
    let none = rw c.deref.ensures.value at c.in_default.ensures in
    IfOk-weaker c.copy.result _ (Merges c.args.self.now) (λ b is. rw (← c.self.view_is) (merges_met c.self.invariant b (is ∙ c.deref-in_default.ensures) none)) c.copy.ensures.copy

pub loop-item-init : goal.loop-item-init
loop-item-init g c = merges_from c.self.invariant (rw c.deref.ensures.value at c.in-Some.ensures) c.index.ensures c.in_ok-base.ensures.same

pub loop-item-preserved : goal.loop-item-preserved
loop-item-preserved g c =
    let there : c.loop-item.item < length c.self.inside.clocks.items = omega (arith, c.self.inside.clocks.ok.0) in
    elim c.if-index.branch [
      | then-index+in_ok-base-2 w ↦ rw w.base-is (merges_more c.self.invariant there w.index-then-index.ensures w.in_ok-base-2.ensures.join c.loop-item.invariant)
      | else-index w ↦ rw w.base-is (merges_kept c.self.invariant there c.index-in-loop-item.ensures w.if-index.false c.loop-item.invariant)
    ]
