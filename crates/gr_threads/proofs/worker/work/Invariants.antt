use Rattle.gr_model.proofs.Common.{◌≡◌, IfSome}
use Rattle.std.specs.Arc.{arc_value}
use Rattle.gr_shadow.specs.Launches.{StandsForLaunch}
use Rattle.gr_threads.specs.Given.{accesses_in}
use Rattle.gr_threads.proofs.worker.work.Given as goal

abbrev pub invariant-loop : goal.invariant-loop
invariant-loop g l =
    (l.seat.queue ≡ (arc_value l.queue).queue) × (l.seat.queue ≡ l.fn.worker.queue) × IfSome l.shadows (StandsForLaunch (accesses_in l.seat.popped))
