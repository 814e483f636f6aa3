use Rattle.gr_model.proofs.Common.{refl, ltb-true, lt-ltb}
use Rattle.gr_timeline.proofs.judged.Judged.is_grounded.Goals as goal

pub returns : goal.returns
returns g c =
    let below = c.first_held.ensures.grounded c.args.event refl in
    (λ lt. below.1 (ltb-true _ _ lt), λ grounded. lt-ltb _ _ (below.0 grounded))
