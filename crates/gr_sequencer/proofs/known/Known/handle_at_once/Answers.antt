use Rattle.gr_model.proofs.Common.{arith}
use Rattle.gr_sequencer.proofs.AtOnceSteps.{known_at_once}
use Rattle.gr_sequencer.proofs.EventSteps.{has_clock, unspent}
use Rattle.gr_sequencer.proofs.known.Known.handle_at_once.Goals as goal

pub access-requires : goal.access-requires
access-requires g c = let is = rw (← c.self.view_is) at c.requires in has_clock _ _ _ _ is.next

pub unreachable-requires : goal.unreachable-requires
unreachable-requires g c = let is = rw (← c.self.view_is) at c.requires in grind (arith, unspent _ _ _ _ is.next, c.access.ensures.no_memory, c.access.ensures.spent, c.in-Err.is)

pub returns-clause-clocks : goal.returns-clause-clocks
returns-clause-clocks g c =
    known_at_once _ _ _ _ _ (rw (← c.self.view_is) at c.requires) c.access.new.self (rw c.in-Ok.is at c.access.ensures.ok)
