use Rattle.gr_model.proofs.Common.{◌≤◌, take}
use Rattle.gr_world.specs.Steps.{Runs}
use Rattle.gr_world.proofs.world.World.run.Given as goal

abbrev pub invariant-loop-step : goal.invariant-loop-step
invariant-loop-step g l = record { runs : Runs l.fn.self (take l.step-index l.steps) l.self l.refused; few : l.refused ≤ l.step-index }
