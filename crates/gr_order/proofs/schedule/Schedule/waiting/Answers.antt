use Rattle.gr_model.proofs.Common.{◌∙◌, refl}
use Rattle.gr_model.specs.declared.event.EventId.{EventId}
use Rattle.gr_clocks.specs.Counts.{count_of}
use Rattle.gr_windows.proofs.WindowLemmas.{first_waits}
use Rattle.gr_order.proofs.WaitLemmas.{waits_as}
use Rattle.gr_order.proofs.schedule.Schedule.waiting.Goals as goal

pub returns : goal.returns
returns g c counts first =
    let e : EventId = record { at = c.args.item; index = count_of counts c.args.item } in
    let waits = waits_as c.self.invariant.kept counts (rw (← c.self.view_is) at first) in
    rw (← c.self.view_is) (c.waiting.ensures ∙ first_waits c.self.inside.lanes.streams counts c.self.inside.windows waits e refl)
