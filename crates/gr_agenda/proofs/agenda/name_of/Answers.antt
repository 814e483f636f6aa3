use Rattle.gr_model.proofs.Common.{arith}
use Rattle.gr_model.specs.Prelude.{is_release, trace_of}
use Rattle.gr_steps.proofs.BarrierPlaces.{places_from-once}
use Rattle.gr_agenda.proofs.agenda.name_of.Goals as goal

pub returns : goal.returns
returns g c n at place = grind (arith, c.lanes.ensures.taken, c.in_ok-release.ensures, places_from-once is_release 0 (trace_of c.args.order.now.taken c.args.event.at) c.args.event.index c.in_ok-release.release n.release)
