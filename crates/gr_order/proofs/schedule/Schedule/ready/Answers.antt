use Rattle.gr_model.proofs.Common.{arith, subst, below_more}
use Rattle.gr_order.specs.Sequences.{IsSequence}
use Rattle.gr_order.proofs.RestLemmas.{all_rest, rest_is_done}
use Rattle.gr_order.proofs.schedule.Schedule.ready.Goals as goal

pub returns-clause-ready : goal.returns-clause-ready
returns-clause-ready g c =
    let count = rw c.shape.ensures.sizes at c.groups-group-end.ensures.count in
    let is = subst IsSequence c.self.view_is c.self.invariant.kept.state.sequence in
    rest_is_done c.args.self.now is (all_rest c.args.self.now is (λ n within. c.loop-group.invariant n (let lt = rw (← c.self.view_is) at within in omega (arith, lt, count))))

pub loop-group-preserved : goal.loop-group-preserved
loop-group-preserved g c = below_more _ _ c.loop-group.invariant c.in_default.ensures
