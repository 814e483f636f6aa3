use Rattle.gr_model.proofs.Common.{rules}
use Rattle.gr_route.proofs.PrefixLemmas.{end_makes_whole}
use Rattle.gr_route.proofs.IntakeSteps.{delivered_last, intake}
use Rattle.gr_route.proofs.Steps.{delivers, joins_as, turned}
use Rattle.gr_route.proofs.intake.Intake.join_back.Goals as goal

pub absorb-requires-clause-rule : goal.absorb-requires-clause-rule
absorb-requires-clause-rule g c = joins_as intake _ _ _ _ _ _ _ c.taker.invariant.0.known c.seat.invariant.known

pub invariant_of-taker : goal.invariant_of-taker
invariant_of-taker g c = (
  turned intake c.taker.inside.pass c.absorb.new.pass c.learn_as.new.pass _ _ _ _ _ c.taker.invariant.0 c.absorb.ensures.queue c.absorb.ensures.rule (cc c.taker.invariant.0.known) c.learn_as.ensures.queue c.learn_as.ensures.rule,
  c.taker.invariant.1,
)

pub returns-clause-delivery : goal.returns-clause-delivery
returns-clause-delivery g c = delivers intake _ _ _ (invariant_of-taker g c).0

pub returns-clause-delivered : goal.returns-clause-delivered
returns-clause-delivered g c = delivered_last _ _ _ c.args.taker.now.joined _ (search rules) (returns-clause-delivery g c)

pub returns-clause-whole : goal.returns-clause-whole
returns-clause-whole g c =
    let last = returns-clause-delivered g c in
    end_makes_whole _ _ _ last.stream last.prefix
