use Rattle.gr_model.proofs.Common.{◌∙◌, arith, get_or_default}
use Rattle.gr_detector.proofs.OrderLemmas.{each_once}
use Rattle.gr_detector.proofs.joins.are_in_order.Goals as goal

pub loop-place-preserved : goal.loop-place-preserved
loop-place-preserved g c k d lt =
    let receipts = c.args.receipts.now in
    let at = c.loop-place.place in
    let r = c.index-receipts-place.result in
    let read = get_or_default receipts at d r in
    grind (arith, lt, read, c.index-receipts-place.is, c.group.ensures, c.from-in-loop-place.ensures, c.if-from-place.false, c.loop-place.invariant k d, c.loop-place-test.true)

pub returns : goal.returns
returns g c _ =
    each_once c.args.groups c.args.receipts.now (c.if-receipts-from.false ∙ c.from.ensures) (λ k d lt. c.loop-place.invariant k d (omega (arith, lt, c.loop-place-test.false)))
