use Rattle.gr_model.proofs.Common.{arith, append_assoc, length-set, length-drop, take_rest, take_more_set}
use Rattle.gr_record.specs.Prelude.{names_in}
use Rattle.gr_record.proofs.Numbers.{one_left}
use Rattle.gr_record.proofs.reading.read_names.Goals as goal

pub loop-place-preserved : goal.loop-place-preserved
unfolding names_in
loop-place-preserved c = rw (take_rest c.loop-place.rest.now 8) (grind (arith, one_left, length-drop 8 c.loop-place.rest.now, length-set, take_more_set, append_assoc))
