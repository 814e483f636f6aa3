use Rattle.gr_model.proofs.Common.{◌∙◌}
use Rattle.gr_clocks.specs.Counts.{count_of}
use Rattle.gr_steps.proofs.NextEvents.{ready_is_next}
use Rattle.gr_windows.proofs.WindowLemmas.{first_waits}
use Rattle.gr_order.proofs.schedule.Schedule.event_at.Goals as goal

pub returns : goal.returns
returns g c =
    let index = ready_is_next c.self.inside.lanes.streams c.self.inside.handled c.self.invariant.kept.state.sequence.lawful (λ i. count_of c.self.inside.frontier i) c.self.invariant.kept.state.first c.args.event (rw (← c.self.view_is) at c.requires) in
    rw (← c.self.view_is) (c.waiting.ensures ∙ first_waits c.self.inside.lanes.streams c.self.inside.frontier c.self.inside.windows c.self.invariant.kept.waits c.args.event index)
