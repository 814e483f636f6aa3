use Rattle.gr_model.proofs.Common.{◌∙◌, inr}
use Rattle.gr_lanes.specs.Remembered.{forgotten_of}
use Rattle.gr_order.proofs.ForgetLemmas.{least_is_next, next_came}
use Rattle.gr_order.proofs.forgetting.forget_next.Goals as goal

pub forget-requires : goal.forget-requires
forget-requires g c =
    let least = forgotten_of c.args.lanes.now c.args.group in
    next_came c.args.lanes.now.streams c.args.frontier.now c.args.group least
    (least_is_next c.args.lanes.now.streams c.args.frontier.now c.args.group c.requires.0 least c.forgotten-least.result c.in-Some.index c.requires.1 c.forgotten-least.ensures c.in-Some.ensures (c.if-index-get.true ∙ c.get.ensures.count))

pub returns-then-index-get : goal.returns-then-index-get
returns-then-index-get g c = inr (
  c.forget.ensures.forgotten,
  least_is_next c.args.lanes.now.streams c.args.frontier.now c.args.group c.requires.0 (forgotten_of c.args.lanes.now c.args.group) c.forgotten-least.result c.in-Some.index c.requires.1 c.forgotten-least.ensures c.in-Some.ensures (c.if-index-get.true ∙ c.get.ensures.count),
)
