use Rattle.gr_model.proofs.Common.{◌≡◌, ◌<◌, ◌≤◌, arith, eq-or-lt_of_le, ⊎_elim}
use Rattle.gr_order.proofs.forgetting.first_behind.Goals as goal

pub loop-item-preserved : goal.loop-item-preserved
loop-item-preserved g c i from below =
    let passed = rw c.forgotten-instance.ensures at (c.has_passed.ensures c.if-not-has_passed.false) in
    let le : i ≤ c.loop-item.item = omega (arith, below) in
    ⊎_elim (λ (same : i ≡ c.loop-item.item). rw same passed) (λ (lt : i < c.loop-item.item). c.loop-item.invariant i from lt) (eq-or-lt_of_le le)
