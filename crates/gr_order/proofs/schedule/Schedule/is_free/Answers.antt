use Rattle.gr_model.proofs.Common.{◌∙◌, refl, sym}
use Rattle.gr_model.specs.declared.event.EventId.{EventId}
use Rattle.gr_clocks.specs.Counts.{count_of}
use Rattle.gr_order.proofs.ReadyLemmas.{ready_plain}
use Rattle.gr_windows.proofs.WindowLemmas.{first_waits}
use Rattle.gr_order.proofs.schedule.Schedule.is_free.Goals as goal

pub returns-in-Some : goal.returns-in-Some
returns-in-Some g c free =
    let e : EventId = record { at = c.args.item; index = count_of c.self.inside.frontier c.args.item } in
    let there = sym (first_waits c.self.inside.lanes.streams c.self.inside.frontier c.self.inside.windows c.self.invariant.kept.waits e refl) ∙ sym c.in-Some.ensures in
    let plain = c.is_plain.ensures free in
    let ready = ready_plain c.self.inside.lanes.streams c.self.inside.handled c.self.invariant.kept.state.sequence.lawful c.self.inside.frontier c.self.invariant.kept.state.first e refl c.in-Some.event there plain.0 plain.1 in
    rw (← c.self.view_is) (e, refl, ready)
