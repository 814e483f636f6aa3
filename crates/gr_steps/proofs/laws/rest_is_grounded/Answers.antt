use Rattle.gr_steps.proofs.HeldEvents.{held_at_rest}
use Rattle.gr_steps.proofs.Resting.{rest_grounded}
use Rattle.gr_steps.proofs.laws.rest_is_grounded.Goals as goal

pub returns-clause-grounded : goal.returns-clause-grounded
returns-clause-grounded c s order lawful rest = rest_grounded s order lawful rest

pub returns-clause-held : goal.returns-clause-held
returns-clause-held c s order count lawful rest first = held_at_rest s order lawful (rest_grounded s order lawful rest) count first
