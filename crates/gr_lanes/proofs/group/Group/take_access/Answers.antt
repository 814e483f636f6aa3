use Rattle.gr_model.proofs.Common.{◌∙◌, sym}
use Rattle.gr_lanes.proofs.IndexLemmas.{none_more}
use Rattle.gr_lanes.proofs.KeptLemmas.{all_there, few_was, lane_was, taken_kept}
use Rattle.gr_lanes.proofs.LaneLemmas.{arrives_access}
use Rattle.gr_lanes.proofs.group.Group.take_access.Goals as goal

pub add_access-requires : goal.add_access-requires
add_access-requires g c =
    record { few = few_was c.self.invariant (all_there c.self.invariant (rw (← c.self.view_is) at c.requires.before_end) (rw (← c.self.view_is) at c.requires.begun)) c.args.event.now (rw (← c.self.view_is) at c.requires.good) c.from.ensures c.index_mut.ensures.value }

pub invariant_of-self : goal.invariant_of-self
invariant_of-self g c =
    let open_list = rw (← c.self.view_is) at c.requires.before_end in
    let all = all_there c.self.invariant open_list (rw (← c.self.view_is) at c.requires.begun) in
    let good = rw (← c.self.view_is) at c.requires.good in
    let was = lane_was c.self.invariant all c.args.event.now good c.from.ensures c.index_mut.ensures.value in
    rw c.push.ensures (taken_kept c.self.invariant all c.args.event.now good c.from.ensures c.index_mut.ensures.value open_list (rw (← c.self.view_is) at c.requires.room)
    (arrives_access was.lane c.args.event.now c.requires.access c.add_access.ensures) (c.self.invariant.ending ∙ sym (none_more c.self.inside.list c.args.event.now open_list c.requires.access.ends)))
