use Rattle.gr_lanes.specs.Remembered.{IsWhole}
use Rattle.gr_races.proofs.TakenLists.{TakenBelow}
use Rattle.gr_races.proofs.taken.take_all.Given as goal

abbrev pub invariant-loop-group : goal.invariant-loop-group
invariant-loop-group g l = record { taken : TakenBelow l.traces l.group l.lanes.streams; whole : IsWhole l.lanes }
