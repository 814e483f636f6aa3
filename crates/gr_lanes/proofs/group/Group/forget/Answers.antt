use Rattle.gr_model.proofs.Common.{◌∙◌, ◌≡◌, ap, arith, length, map, length-map, with_items_is}
use Rattle.gr_lanes.specs.Kept.{forgetting_one}
use Rattle.gr_lanes.proofs.KeptLemmas.{forgotten_kept}
use Rattle.gr_lanes.proofs.group.Group.forget.Goals as goal

pub invariant_of-self : goal.invariant_of-self
invariant_of-self g c =
    let is = c.forget_one.ensures ∙ ap (map (forgetting_one c.self.inside.forgotten)) c.deref_mut.ensures.value in
    let count : length c.forget_one.new.lanes ≡ c.self.inside.lanes.len = omega (arith, ap length is, length-map c.self.inside.lanes.items (forgetting_one c.self.inside.forgotten), c.self.inside.lanes.ok.0) in
    rw c.pop_front.ensures.rest (forgotten_kept c.self.invariant (rw (← c.self.view_is) at c.requires.came) (with_items_is c.self.inside.lanes c.forget_one.new.lanes count ∙ is))
