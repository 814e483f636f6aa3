use Rattle.gr_model.proofs.Common.{◌∙◌, None, ap, slice_get}
use Rattle.gr_lanes.specs.Indices.{Index}
use Rattle.gr_lanes.proofs.KeptLemmas.{gone_event, lane_is, lane_read, number_kept}
use Rattle.gr_lanes.proofs.group.Group.barrier_event.Goals as goal

pub returns-in_err-lane : goal.returns-in_err-lane
returns-in_err-lane g c = c.from_residual.ensures ∙ (rw (← c.self.view_is) (gone_event (lane_is c.self.invariant c.deref.ensures.value c.from.ensures None c.in_err-lane.ensures.lookup.0 c.in_err-lane.ensures.lookup.1) c.args.number (rw (← c.self.view_is) at c.requires)))

pub barrier_event-requires : goal.barrier_event-requires
barrier_event-requires g c =
    let read = lane_read c.self.invariant c.deref.ensures.value c.from.ensures c.in_ok-lane.ensures.lookup.0 c.in_ok-lane.ensures.lookup.1 in
    record { lane = read.lane; remembered = number_kept read c.args.number (rw (← c.self.view_is) at c.requires) }

pub returns : goal.returns
returns g c =
    let read = lane_read c.self.invariant c.deref.ensures.value c.from.ensures c.in_ok-lane.ensures.lookup.0 c.in_ok-lane.ensures.lookup.1 in
    c.barrier_event.ensures ∙ (rw (← c.self.view_is) (ap (λ (t : Index). slice_get t.arrived c.args.number) read.index))
