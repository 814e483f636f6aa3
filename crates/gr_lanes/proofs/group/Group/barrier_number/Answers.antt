use Rattle.gr_model.proofs.Common.{◌∙◌, ◌+◌, ◌-◌, ap, arith, slice_get_within}
use Rattle.gr_model.specs.Prelude.{is_barrier}
use Rattle.gr_lanes.specs.Indices.{GroupList}
use Rattle.gr_lanes.proofs.KeptLemmas.{count_read, gone_number, place_read, places_few, rising}
use Rattle.gr_lanes.proofs.group.Group.barrier_number.Goals as goal

pub returns-in_err-lane : goal.returns-in_err-lane
returns-in_err-lane g c = rw c.from_residual.ensures (gone_number c.in_err-lane.ensures c.args.index c.requires)

pub returns-in_err-place : goal.returns-in_err-place
returns-in_err-place g c = rw c.from_residual-in_err-place.ensures
    (λ k at. c.in_err-place.ensures (k - c.args.self.now.forgotten) (place_read c.in_ok-lane.ensures.1 k (c.requires k at) ∙ at))

pub barrier_place-requires : goal.barrier_place-requires
barrier_place-requires g c = record { few = omega (arith, places_few c.in_ok-lane.ensures.1 is_barrier, count_read c.in_ok-lane.ensures.1); rise = rising c.in_ok-lane.ensures.1 }

pub overflow_add-result : goal.overflow_add-result
overflow_add-result g c =
    omega (arith, places_few c.in_ok-lane.ensures.1 is_barrier, count_read c.in_ok-lane.ensures.1, slice_get_within _ c.in_ok-place.place c.args.index c.in_ok-place.ensures, ap (λ (t : GroupList). t.forgotten) c.self.view_is)

pub returns : goal.returns
returns g c = grind (arith, ap (λ (t : GroupList). t.forgotten) c.self.view_is, place_read c.in_ok-lane.ensures.1 (c.self.inside.forgotten + c.in_ok-place.place))
