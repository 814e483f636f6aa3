use Rattle.gr_model.proofs.Common.{◌≡◌, ◌-◌, length}
use Rattle.gr_order.specs.Sequences.{event_count}
use Rattle.gr_taking.specs.Along.{IsAlong}
use Rattle.gr_taking.proofs.handling.handle_ready.Given as goal

abbrev pub invariant-loop-step : goal.invariant-loop-step
invariant-loop-step g l = record { taken : l.sequencer.taken ≡ l.fn.sequencer.taken; along : IsAlong (g.K.Keeper.stands l.keeper) l.sequencer l.kept }

abbrev pub decreases-loop-step : goal.decreases-loop-step
decreases-loop-step g l = event_count l.sequencer.taken - length l.sequencer.handled
