use Rattle.gr_model.proofs.Common.{◌≡◌, arith, refl, subst}
use Rattle.gr_clocks.specs.Counts.{count_of}
use Rattle.gr_steps.specs.Steps.{IsReady}
use Rattle.gr_steps.proofs.NextEvents.{ready_is_next}
use Rattle.gr_order.proofs.schedule.Schedule.ready_event.Goals as goal

pub returns-clause-next : goal.returns-clause-next
returns-clause-next g c =
    let first = ready_is_next c.self.inside.lanes.streams c.self.inside.handled c.self.invariant.kept.state.sequence.lawful (λ i. count_of c.self.inside.frontier i) c.self.invariant.kept.state.first c.requires.0 (rw (← c.self.view_is) at c.requires.2) in
    let same : c.requires.0 ≡ record { at = c.args.item; index = c.get-index.result } = grind (arith, first, c.requires.1, c.get-index.ensures.count) in
    (refl, subst (IsReady c.args.self.now.taken c.args.self.now.handled) same c.requires.2)
