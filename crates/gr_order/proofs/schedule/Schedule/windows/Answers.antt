use Rattle.gr_order.proofs.WaitLemmas.{waits_as}
use Rattle.gr_order.proofs.schedule.Schedule.windows.Goals as goal

pub returns : goal.returns
returns g c counts first =
    rw (← c.self.view_is) (waits_as c.self.invariant.kept counts (rw (← c.self.view_is) at first))
