use Rattle.gr_model.proofs.Common.{refl}
use Rattle.gr_taking.proofs.rounds.take_until.Goals as goal

pub returns-clause-enough : goal.returns-clause-enough
returns-clause-enough g c stopped = record { shown = _; shows = refl; says = record { met = rw c.loop-sequencer-test.false at c.is_enough.ensures } }
