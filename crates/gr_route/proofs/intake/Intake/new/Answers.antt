use Rattle.gr_model.proofs.Common.{ap, length, ◌∙◌}
use Rattle.gr_route.specs.Batches.{sent_by}
use Rattle.gr_route.specs.IntakeRule.{no_sizes}
use Rattle.gr_route.proofs.IntakeSteps.{intake}
use Rattle.gr_route.proofs.Sizes.{each_has_place}
use Rattle.gr_route.proofs.Steps.{begins, begun}
use Rattle.gr_route.proofs.intake.Intake.new.Goals as goal

pub ruled-requires-clause-rule : goal.ruled-requires-clause-rule
ruled-requires-clause-rule g c = begins intake no_sizes

pub invariant_of-seat : goal.invariant_of-seat
invariant_of-seat g c =
    let sizes = c.in_ok-sizes.ensures in
    (rw sizes (begun intake _ _ _ c.in_ok-queue.ensures.1.1 c.in_ok-queue.ensures.3 (ap (sent_by 0) c.none.ensures)), ap length sizes ∙ each_has_place)
