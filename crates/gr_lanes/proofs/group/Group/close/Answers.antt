use Rattle.gr_model.proofs.Common.{◌∙◌, ap, arith, is_some, length, sym}
use Rattle.gr_lanes.proofs.IndexLemmas.{end_is_complete}
use Rattle.gr_lanes.proofs.KeptLemmas.{closed_kept}
use Rattle.gr_lanes.proofs.group.Group.close.Goals as goal

pub invariant_of-self : goal.invariant_of-self
invariant_of-self g c =
    let ended = sym (end_is_complete c.self.inside.list) ∙ (sym (ap is_some c.self.invariant.ending) ∙ (sym c.is_some.ensures ∙ c.if-is_some.true)) in
    closed_kept c.self.invariant ended c.lanes_left-left.result (omega (arith, c.lanes_left-left.ensures.within, ap length c.deref.ensures.value)) (rw c.deref.ensures.value at c.lanes_left-left.ensures.spent) (c.shrink_to_fit.ensures.items ∙ c.truncate.ensures.items)
