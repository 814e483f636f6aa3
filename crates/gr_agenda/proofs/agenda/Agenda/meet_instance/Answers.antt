use Rattle.gr_model.proofs.Common.{arith}
use Rattle.gr_order.proofs.MeetLemmas.{no_group_meets}
use Rattle.gr_agenda.proofs.KeptLemmas.{kept_met}
use Rattle.gr_agenda.proofs.agenda.Agenda.meet_instance.Goals as goal

pub items-items-requires : goal.items-items-requires
items-items-requires g c =
    let q = c.self.inside.order in
    let can = rw (← c.self.view_is) at c.requires in
    let met = c.meet_instance.ensures.step can.0 can.1 can.2 in
    rw (c.shape.ensures.sizes, c.lanes.ensures.taken, met.taken) (grind (arith, no_group_meets q.taken q.handled c.args.group, can))

pub invariant_of-self : goal.invariant_of-self
invariant_of-self g c =
    let q = c.self.inside.order in
    let lists = c.self.inside.waiting.items in
    let can = rw (← c.self.view_is) at c.requires in
    let met = c.meet_instance.ensures.step can.0 can.1 can.2 in
    let size = rw (c.shape.ensures.sizes, c.lanes.ensures.taken) at c.items-items.ensures.size in (
      kept_met q c.sequence_holds.ensures c.self.inside.worklist c.put_pending.new.worklist lists lists c.self.invariant.0
          (λ r has. c.put_pending.ensures.keeps r (c.put.ensures.keeps r has)) c.meet_instance.new.self c.args.group can.0 met
          (c.put_pending.ensures.keeps _ c.put.ensures.there) (λ i lt pending. c.put_pending.ensures.there i (rw size lt) pending),
      rw met.taken c.self.invariant.1,
    )

pub returns-clause-step : goal.returns-clause-step
returns-clause-step g c = rw c.self.view_is at c.meet_instance.ensures.step
