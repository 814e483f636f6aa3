use Rattle.gr_model.proofs.Common.{◌∙◌, sym}
use Rattle.gr_lanes.proofs.IndexLemmas.{end_pushed}
use Rattle.gr_lanes.proofs.KeptLemmas.{few_then, lane_then, same_then, taken_then}
use Rattle.gr_lanes.proofs.group.Group.take.Goals as goal

pub take-requires-clause-few : goal.take-requires-clause-few
take-requires-clause-few g c = few_then c.self.invariant (rw (← c.self.view_is) at c.requires.before_end) c.in_ok-begin.ensures.ok c.args.event.now (rw (← c.self.view_is) at c.requires.good) c.from.ensures c.index_mut.ensures.value

pub take-requires-clause-lane : goal.take-requires-clause-lane
take-requires-clause-lane g c = lane_then c.self.invariant (rw (← c.self.view_is) at c.requires.before_end) c.in_ok-begin.ensures.ok c.args.event.now (rw (← c.self.view_is) at c.requires.good) c.from.ensures c.index_mut.ensures.value

pub invariant_of-self-in_err-take : goal.invariant_of-self-in_err-take
invariant_of-self-in_err-take g c =
    same_then c.self.invariant (rw (← c.self.view_is) at c.requires.before_end) c.in_ok-begin.ensures.ok c.args.event.now (rw (← c.self.view_is) at c.requires.good) c.from.ensures c.index_mut.ensures.value (c.in_err-take.ensures.err.0) (c.in_err-take.ensures.err.1)

pub invariant_of-self-2 : goal.invariant_of-self-2
invariant_of-self-2 g c = rw c.push.ensures
    (taken_then c.self.invariant (rw (← c.self.view_is) at c.requires.before_end) c.in_ok-begin.ensures.ok c.args.event.now (rw (← c.self.view_is) at c.requires.good) c.from.ensures c.index_mut.ensures.value (rw (← c.self.view_is) at c.requires.room) c.in_ok-take.ensures.ok (c.end_of-self-inside.ensures ∙ sym (end_pushed c.self.inside.list c.args.event.now)))
