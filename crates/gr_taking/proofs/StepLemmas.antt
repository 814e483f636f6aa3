-- What a step does to the accesses along the order, and to the number of the handled events.
use Rattle.gr_model.proofs.Common.{◌-◌, ◌<◌, List, ◌++◌, length, Some, None, arith, append-nil, length-append}
use Rattle.gr_closure.specs.AccessesAlong.{AreAccesses}
use Rattle.gr_closure.proofs.Adding.{bare_access, handled_adds, met_add_none, others_add_none}
use Rattle.gr_order.specs.Sequences.{Sequence, IsSequence, event_count}
use Rattle.gr_sequencer.specs.Answers.{IsStep}
use Rattle.gr_sequencer.specs.declared.handled.Handled.{Handled}
use Rattle.gr_sequencer.specs.declared.handled.Handled.TheVariants.{One, Meet}
use Rattle.gr_clocks.specs.ClockedAccess.{ClockedAccess, clocked}
use Rattle.gr_taking.specs.Along.{accesses_of}
use Rattle.gr_taking.proofs.EventLists.{order_is_short}

-- the accesses along the order after a step
pub accesses_step : {Z : Type 0} (old new : Sequence) (step : Handled Z) (accesses : List ClockedAccess) → IsStep old new step → AreAccesses old.taken old.handled accesses → AreAccesses new.taken new.handled (accesses ++ accesses_of step)
accesses_step old new (One e (Some a)) accesses h are = rw h.0.taken (handled_adds old.taken old.handled new.handled e accesses (clocked a) h.0.handles are (bare_access old.taken e a (rw (← h.0.taken) h.1)))
accesses_step old new (One e None) accesses h are = rw (h.0.taken, append-nil accesses) (others_add_none old.taken old.handled new.handled e accesses h.0.handles are (rw (← h.0.taken) h.1))
accesses_step old new (Meet g k) accesses h are = rw (h.taken, append-nil accesses) (met_add_none old.taken old.handled new.handled g k accesses h.meets are)

-- a step handles an event at least, so fewer are left
pub fewer_left : {Z : Type 0} (old new : Sequence) (step : Handled Z) → IsStep old new step → IsSequence new → event_count new.taken - length new.handled < event_count old.taken - length old.handled
fewer_left old new step h sequence = grind (arith, order_is_short new.taken new.handled sequence.prefixes sequence.lawful, length-append)
