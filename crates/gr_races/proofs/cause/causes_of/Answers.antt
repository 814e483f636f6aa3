use Rattle.gr_races.proofs.cause.causes_of.Goals as goal

pub returns : goal.returns
returns g c = rw c.in_ok-lanes.ensures.streams at c.causes_from.ensures
