use Rattle.gr_steps.proofs.NextEvents.{next_of_item}
use Rattle.gr_steps.proofs.laws.ready_is_next.Goals as goal

pub returns : goal.returns
returns c s order e d lawful ready item = next_of_item s order lawful e ready d item
