use Rattle.gr_steps.proofs.StepGrowth.{handles_grows, meets_grows}
use Rattle.gr_steps.proofs.laws.steps_stay_allowed.Goals as goal

pub returns-clause-handle : goal.returns-clause-handle
returns-clause-handle c s t old new e grows lawful h = handles_grows s t grows old lawful e new h

pub returns-clause-meet : goal.returns-clause-meet
returns-clause-meet c s t old new g k grows lawful h = meets_grows s t grows old lawful g k new h
