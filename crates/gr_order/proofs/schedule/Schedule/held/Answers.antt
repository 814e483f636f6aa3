use Rattle.gr_order.proofs.HeldLemmas.{held_at}
use Rattle.gr_order.proofs.schedule.Schedule.held.Goals as goal

pub returns-clause-held : goal.returns-clause-held
returns-clause-held g c =
    let held = held_at c.self.invariant.kept.state in
    rw (← c.self.view_is) held
