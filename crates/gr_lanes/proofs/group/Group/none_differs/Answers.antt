use Rattle.gr_model.proofs.Common.{◌≡◌, ◌∙◌, arith, length, sym}
use Rattle.gr_lanes.proofs.KeptLemmas.{none_differs}
use Rattle.gr_lanes.proofs.group.Group.none_differs.Goals as goal

pub returns : goal.returns
returns g c holds =
    let all : length c.self.inside.lanes.items ≡ c.self.inside.size = grind (arith, c.len.ensures, c.from.ensures, c.self.inside.lanes.ok.0) in
    let agree = rw c.deref.ensures.value at (sym c.are_as_first.ensures ∙ holds) in
    rw (← c.is_complete.ensures, ← c.self.view_is) (none_differs c.self.invariant c.args.number (rw (← c.self.view_is) at c.requires) all c.is_complete.result agree)
