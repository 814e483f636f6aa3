use Rattle.gr_model.proofs.Common.{◌++◌}
use Rattle.gr_sequencer.specs.Answers.{IsStep}
use Rattle.gr_taking.specs.Along.{accesses_of}
use Rattle.gr_taking.proofs.StepLemmas.{accesses_step, fewer_left}
use Rattle.gr_taking.proofs.handling.handle_ready.Goals as goal

pub loop-step-smaller : goal.loop-step-smaller
loop-step-smaller g c = rw c.close.ensures.unchanged (fewer_left _ _ c.in-Some.step (rw c.in-Some.is at c.in_ok-step.ensures.some) c.step.ensures.sequence)

pub close-requires : goal.close-requires
close-requires g c =
    let step : IsStep c.loop-step.sequencer c.step.new.self c.in-Some.step = rw c.in-Some.is at c.in_ok-step.ensures.some in
    let before = c.loop-step.invariant.along in
    (before.0 ++ accesses_of c.in-Some.step, accesses_step _ _ c.in-Some.step before.0 step before.1, c.in_ok-give.ensures before.0 before.2)
