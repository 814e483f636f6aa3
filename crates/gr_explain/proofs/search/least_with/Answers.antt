use Rattle.gr_model.proofs.Common.{◌≡◌, ◌⊎◌, [], ◌∷◌, ◌++◌, Some, inl, inr, ⊎_elim, take, take_all, take_more}
use Rattle.gr_shadow.specs.Lent.{lent_clocked}
use Rattle.gr_explain.specs.Search.{IsPairOf}
use Rattle.gr_explain.specs.Seen.{IsPairWith}
use Rattle.gr_explain.proofs.PairOrder.{least_same, least_then}
use Rattle.gr_explain.proofs.SearchLemmas.{more_pairs, pairs_before}
use Rattle.gr_explain.proofs.search.least_with.Goals as goal

pub loop-seen-preserved : goal.loop-seen-preserved
loop-seen-preserved g c =
    let first = take c.loop-seen.seen-index c.args.classes.now in
    let d = c.seen-item.result in
    let y = lent_clocked c.args.access.now in
    rw (take_more c.args.classes.now c.loop-seen.seen-index d c.loop-seen-test.true, ← c.seen-item.is)
    (least_same (λ p. ((c.args.least ≡ Some p) ⊎ IsPairOf first y p) ⊎ IsPairWith d y p) (λ p. (c.args.least ≡ Some p) ⊎ IsPairOf (first ++ d ∷ []) y p) c.with_pairs-least.result
    (λ p h. ⊎_elim (λ was. ⊎_elim (λ a. inl a) (λ b. inr (more_pairs first d y p (inl b))) was) (λ is. inr (more_pairs first d y p (inr is))) h)
    (λ p h. ⊎_elim (λ a. inl (inl a)) (λ b. ⊎_elim (λ was. inl (inr was)) (λ is. inr is) (pairs_before first d y p b)) h)
    (least_then (λ p. (c.args.least ≡ Some p) ⊎ IsPairOf first y p) (IsPairWith d y) c.loop-seen.least c.with_pairs-least.result c.loop-seen.invariant c.with_pairs-least.ensures))

pub returns : goal.returns
returns g c = rw (← take_all c.loop-seen.seen-index c.args.classes.now c.loop-seen-test.false) c.loop-seen.invariant
