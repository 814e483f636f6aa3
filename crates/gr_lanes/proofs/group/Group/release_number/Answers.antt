use Rattle.gr_model.proofs.Common.{filter}
use Rattle.gr_model.specs.Prelude.{is_release, is_of}
use Rattle.gr_lanes.proofs.IndexLemmas.{places_rise}
use Rattle.gr_lanes.proofs.KeptLemmas.{places_few}
use Rattle.gr_lanes.proofs.group.Group.release_number.Goals as goal

pub release_number-requires : goal.release_number-requires
release_number-requires g c = record { few = rw c.in_ok-lane.ensures.1.index (places_few c.in_ok-lane.ensures.1 is_release); rise = rw c.in_ok-lane.ensures.1.index (places_rise is_release 0 (filter (is_of c.args.item) c.args.self.now.list)) }

pub returns : goal.returns
returns g c = rw c.in_ok-lane.ensures.1.index at c.release_number.ensures
