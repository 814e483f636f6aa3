use Rattle.gr_model.proofs.Common.{length, ap, sym, ◌∙◌, arith, true≢false}
use Rattle.gr_order.proofs.Cutting.{all_cut, no_more_cut, one_more_cut}
use Rattle.gr_order.proofs.groups.cut.Goals as goal
use Rattle.gr_order.proofs.groups.cut.Goals.{then-is_cut+in_ok-push, else-is_cut}

pub loop-group-preserved : goal.loop-group-preserved
loop-group-preserved g c =
    let s = c.args.lanes.now.streams in
    elim c.if-is_cut.branch [
      | then-is_cut+in_ok-push w ↦ rw (w.groups-is, w.in_ok-push.ensures.items) (one_more_cut s c.loop-group.group c.loop-group.groups.items c.loop-group.invariant (c.is_cut.ensures.0 w.if-is_cut.true))
      | else-is_cut w ↦ rw w.groups-is (no_more_cut s c.loop-group.group c.loop-group.groups.items c.loop-group.invariant (λ cut. true≢false (sym (c.is_cut.ensures.1 cut) ∙ w.if-is_cut.false)))
    ]

pub returns : goal.returns
returns g c = all_cut c.args.lanes.now.streams c.loop-group.group c.loop-group.groups.items c.loop-group.invariant (omega (arith, ap length c.shape.ensures.sizes))
