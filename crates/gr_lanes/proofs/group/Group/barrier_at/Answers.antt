use Rattle.gr_model.proofs.Common.{◌∙◌, ◌-◌, ap}
use Rattle.gr_lanes.specs.Indices.{GroupList}
use Rattle.gr_lanes.proofs.KeptLemmas.{gone_place, number_kept, place_read}
use Rattle.gr_lanes.proofs.group.Group.barrier_at.Goals as goal

pub returns-in_err-lane : goal.returns-in_err-lane
returns-in_err-lane g c = c.from_residual.ensures ∙ gone_place c.in_err-lane.ensures c.args.number c.requires

pub overflow_sub-number : goal.overflow_sub-number
overflow_sub-number g c = rw (← c.self.view_is) at (number_kept c.in_ok-lane.ensures.1 c.args.number c.requires)

pub returns : goal.returns
returns g c = cc (c.barrier.ensures, ap (λ (t : GroupList). c.args.number - t.forgotten) c.self.view_is, place_read c.in_ok-lane.ensures.1 c.args.number (number_kept c.in_ok-lane.ensures.1 c.args.number c.requires))
