use Rattle.gr_model.proofs.Common.{◌≡◌, map, range_with_len}
use Rattle.gr_races.specs.Arrivals.{came}
use Rattle.gr_races.proofs.arrivals.came_to.Given as goal

abbrev pub invariant-loop-item : goal.invariant-loop-item
invariant-loop-item g l = l.all.items ≡ map (came l.lanes.streams l.group l.number) (range_with_len 0 l.item)
