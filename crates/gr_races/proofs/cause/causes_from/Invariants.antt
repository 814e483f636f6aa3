use Rattle.gr_model.proofs.Common.{take}
use Rattle.gr_races.specs.Causes.{AreCauses}
use Rattle.gr_races.proofs.cause.causes_from.Given as goal

abbrev pub invariant-loop-place : goal.invariant-loop-place
invariant-loop-place g l = AreCauses l.lanes.streams (take l.place l.races) l.causes.items
