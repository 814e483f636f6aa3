use Rattle.gr_model.proofs.Common.{◌<◌, ◌≤◌, ⊎_elim, arith, cases_lt, slice_get_within}
use Rattle.gr_agenda.proofs.ListLemmas.{at_index}
use Rattle.gr_agenda.proofs.waiting.put_all.Goals as goal

pub loop-item-preserved : goal.loop-item-preserved
loop-item-preserved g c = (
  λ p i lt at. ⊎_elim
      (λ (less : p < c.loop-item.item-index). c.put.ensures.keeps _ (c.loop-item.invariant.0 p i less at))
      (λ (ge : c.loop-item.item-index ≤ p). rw (at_index c.args.list.now c.loop-item.item-index p _ i c.loop-item-test.true (omega (arith, lt, ge))
      at) at c.put.ensures.there)
      (cases_lt p c.loop-item.item-index),
  λ r has. c.put.ensures.keeps r (c.loop-item.invariant.1 r has),
)

pub returns-clause-there : goal.returns-clause-there
returns-clause-there g c i there = grind (arith, slice_get_within c.args.list.now there.0 i there.1, c.loop-item.invariant.0 there.0 i)
