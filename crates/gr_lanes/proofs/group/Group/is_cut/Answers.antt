use Rattle.gr_model.proofs.Common.{arith}
use Rattle.gr_lanes.proofs.IndexLemmas.{cut_if_end, end_if_cut}
use Rattle.gr_lanes.proofs.group.Group.is_cut.Goals as goal

pub returns : goal.returns
returns g c = rw (← c.self.view_is) (
  λ is. cut_if_end c.self.inside.list (grind (arith, c.self.invariant.ending)),
  λ cut. let ends = end_if_cut c.self.inside.list c.self.invariant.prefix.good cut in grind (arith, c.self.invariant.ending),
)
