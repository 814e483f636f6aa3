use Rattle.gr_model.proofs.Common.{◌∙◌, map, ap, arith, take_all}
use Rattle.gr_model.proofs.GroupLaws.{part_of_shape}
use Rattle.gr_lanes.specs.Indices.{empty}
use Rattle.gr_lanes.proofs.GroupLemmas.{nothing_groups, nothing_is, whole_is}
use Rattle.gr_lanes.proofs.lanes.Lanes.new.Goals as goal

pub invariant_of-result : goal.invariant_of-result
invariant_of-result g c =
    let are = c.loop-group.invariant ∙ ap (map empty) (take_all c.loop-group.group c.args.shape (omega (arith, c.groups-group-end.ensures.count))) in
    rw c.of-shape.ensures (nothing_groups (part_of_shape c.args.shape c.groups-group-end.ensures.shape) are)

pub returns : goal.returns
returns g c =
    let are = c.loop-group.invariant ∙ ap (map empty) (take_all c.loop-group.group c.args.shape (omega (arith, c.groups-group-end.ensures.count))) in
    record { nothing = rw c.of-shape.ensures (nothing_is are); whole = whole_is are c.of-shape.result c.of-shape.ensures; prefixes = (invariant_of-result g c).prefixes }
