use Rattle.gr_model.proofs.Common.{IfOk-at_ok, IfOk-weaker}
use Rattle.gr_model.specs.Prelude.{Lists, WordBelow}
use Rattle.gr_shadow.specs.Clashes.{IsHitIn}
use Rattle.gr_detector.specs.Settling.{IsHitAmong}
use Rattle.gr_detector.proofs.HitLemmas.{both_are}
use Rattle.gr_detector.proofs.joins.merge_all.Goals as goal

pub returns : goal.returns
returns g c = λ seen given first second.
    let old : Lists WordBelow (IsHitAmong seen) c.deref.result.now =
    rw c.deref.ensures.value (IfOk-at_ok (λ v. Lists WordBelow (IsHitAmong seen) v.items) c.in_ok-words.was first) in
    let more : Lists WordBelow (IsHitIn given) c.deref-2.result.now =
    rw c.deref-2.ensures.value (IfOk-at_ok (λ v. Lists WordBelow (IsHitIn given) v.items) c.in_ok-more.was second) in
    IfOk-weaker c.merge.result _ _ (λ v both. both_are _ _ seen given v.items both old more) c.merge.ensures
