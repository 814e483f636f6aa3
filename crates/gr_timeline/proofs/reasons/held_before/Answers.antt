use Rattle.gr_model.proofs.Common.{◌∙◌, arith, refl, sym, true≢false}
use Rattle.gr_timeline.proofs.reasons.held_before.Goals as goal

pub returns-else-is_grounded : goal.returns-else-is_grounded
returns-else-is_grounded g c =
    let place = rw c.lanes.ensures.taken at c.barrier_at.ensures in
    let some = c.if-index-eq0.false in
    record {
      barrier = record { at = c.args.item; index = c.in_ok-index.index };
      stands = record { group = refl; item = c.requires.item; place = sym place ∙ c.in_ok-index.was };
      previous = record { item = refl; next = omega (arith, some) };
      held = λ grounded. true≢false (sym (c.is_grounded.ensures.1 grounded) ∙ c.if-is_grounded.false);
    }
