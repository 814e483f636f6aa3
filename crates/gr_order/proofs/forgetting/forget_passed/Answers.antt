use Rattle.gr_lanes.specs.Remembered.{forgotten_of}
use Rattle.gr_order.proofs.ForgetLemmas.{decides, passed_came}
use Rattle.gr_order.proofs.forgetting.forget_passed.Goals as goal

pub forget-requires : goal.forget-requires
forget-requires g c = passed_came c.args.lanes.now.streams c.args.frontier.now c.args.group (forgotten_of c.args.lanes.now c.args.group) (c.have_all_passed.ensures c.if-not-have_all_passed.false)

pub decide-requires : goal.decide-requires
decide-requires g c = passed_came c.args.lanes.now.streams c.args.frontier.now c.args.group (forgotten_of c.args.lanes.now c.args.group) (c.have_all_passed.ensures c.if-not-have_all_passed.false)

pub returns-in-Some : goal.returns-in-Some
returns-in-Some g c =
    decides c.args.lanes.now c.decide.new.self c.args.frontier.now c.args.group c.forgotten-instance.result c.in-Some.cause c.decide.result c.requires (c.have_all_passed.ensures c.if-not-have_all_passed.false) c.forgotten-instance.ensures c.in-Some.ensures c.decide.ensures.ok c.decide.ensures.err
