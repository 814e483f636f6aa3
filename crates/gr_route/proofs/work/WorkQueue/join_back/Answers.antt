use Rattle.gr_model.proofs.Common.{rules}
use Rattle.gr_route.proofs.Steps.{joins_as, turned}
use Rattle.gr_route.proofs.WorkSteps.{delivered_back, delivery, given_joined, stop_makes_whole, work}
use Rattle.gr_route.proofs.work.WorkQueue.join_back.Goals as goal

pub absorb-requires-clause-rule : goal.absorb-requires-clause-rule
absorb-requires-clause-rule g c = joins_as work _ _ _ _ _ _ _ c.worker.invariant.known c.giver.invariant.known

pub invariant_of-worker : goal.invariant_of-worker
invariant_of-worker g c = turned work c.worker.inside.pass c.absorb.new.pass c.learn_as.new.pass _ _ _ _ _ c.worker.invariant c.absorb.ensures.queue c.absorb.ensures.rule (cc c.worker.invariant.known) c.learn_as.ensures.queue c.learn_as.ensures.rule

pub returns-clause-delivery : goal.returns-clause-delivery
returns-clause-delivery g c = delivery _ _ _ (invariant_of-worker g c)

pub returns-clause-prefix : goal.returns-clause-prefix
returns-clause-prefix g c = (delivered_back _ _ (search (rules, given_joined)) (returns-clause-delivery g c)).0

pub returns-clause-whole : goal.returns-clause-whole
returns-clause-whole g c =
    let d = delivered_back _ c.args.giver.pushed (search (rules, given_joined)) (returns-clause-delivery g c) in
    stop_makes_whole _ _ d.1 d.0
