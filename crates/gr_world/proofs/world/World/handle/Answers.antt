use Rattle.gr_model.proofs.Common.{rules, option_map}
use Rattle.gr_shadow.specs.Clashes.{clocked}
use Rattle.gr_sequencer.specs.Answers.{IsStep as IsSequencerStep}
use Rattle.gr_sequencer.specs.declared.handled.Handled.TheVariants.{One}
use Rattle.gr_world.proofs.InFlightLemmas.{handled_is_step, handling_is_world, in_flight_of, no_in_flight}
use Rattle.gr_world.proofs.world.World.handle.Goals as goal

pub invariant_of-self-2 : goal.invariant_of-self-2
invariant_of-self-2 g c =
    let step : IsSequencerStep c.self.inside.sequencer c.handle.new.self (One c.in-One.event c.in-One.access) = rw c.in-One.is at c.in_ok-access.ensures.step in
    handling_is_world _ c.self.invariant c.in-One.event c.handle.new.self (option_map clocked c.in-One.access) (no_in_flight c.self.inside.in_flight (search rules)) step.0 (in_flight_of c.handle.new.self.taken c.in-One.event c.in-One.access step.1) c.handle.ensures.sequence

pub returns-clause-step : goal.returns-clause-step
returns-clause-step g c =
    let step : IsSequencerStep c.self.inside.sequencer c.handle.new.self (One c.in-One.event c.in-One.access) = rw c.in-One.is at c.in_ok-access.ensures.step in
    rw (← c.self.view_is)
    (handled_is_step _ c.args.item (rw (← c.shape.ensures.sizes) (c.has.ensures.0 c.if-not-has.false)) (no_in_flight c.self.inside.in_flight (search rules)) c.in-One.event c.handle.new.self _ (rw c.in-One.is at c.in_ok-access.ensures.item) step.0 (in_flight_of c.handle.new.self.taken c.in-One.event c.in-One.access step.1))
