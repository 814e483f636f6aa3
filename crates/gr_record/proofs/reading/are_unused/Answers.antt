use Rattle.gr_model.proofs.Common.{arith, length-drop, take_rest}
use Rattle.gr_record.specs.Prelude.{are_unused}
use Rattle.gr_record.proofs.Numbers.{one_left}
use Rattle.gr_record.proofs.reading.are_unused.Goals as goal

pub loop-preserved : goal.loop-preserved
unfolding are_unused
loop-preserved c = rw (take_rest c.loop.rest.now 8) (grind (arith, one_left, length-drop 8 c.loop.rest.now))
