use Rattle.gr_model.proofs.Common.{◌∙◌, arith, refl, sym, true≢false}
use Rattle.gr_detector.proofs.joins.has_each_once.Goals as goal

pub returns-then-count_of-ne1 : goal.returns-then-count_of-ne1
returns-then-count_of-ne1 g c = (λ t. absurd (true≢false (sym t)), λ all. absurd (c.if-count_of-ne1.true (c.count_of.ensures ∙ all c.loop-group.group c.loop-group-test.true)))

pub returns : goal.returns
returns g c = (λ t k lt. c.loop-group.invariant k (omega (arith, lt, c.loop-group-test.false)), λ all. refl)
