use Rattle.gr_model.proofs.Common.{◌≡◌, take}
use Rattle.gr_lanes.specs.Remembered.{remembering}
use Rattle.gr_taking.specs.Taken.{with_list}
use Rattle.gr_races.proofs.taken.take_list.Given as goal

abbrev pub invariant-loop-event : goal.invariant-loop-event
invariant-loop-event g l = l.lanes ≡ remembering l.fn.lanes (with_list l.fn.lanes.streams l.group (take l.event-index l.list))
