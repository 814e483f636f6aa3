use Rattle.gr_model.proofs.Common.{subst, get_or_default, AllWithin-more}
use Rattle.gr_timeline.specs.Waiting.{HasGroundedRelease}
use Rattle.gr_timeline.proofs.reasons.first_held_release.Goals as goal

pub loop-name-preserved : goal.loop-name-preserved
loop-name-preserved g c =
    let P = HasGroundedRelease c.args.judged.now c.args.event in
    AllWithin-more P c.args.names.now 0 c.loop-name.name-index c.loop-name.invariant
    (λ d. subst P (get_or_default c.args.names.now c.loop-name.name-index _ d c.loop-name-test.true) c.in_default.ensures)
