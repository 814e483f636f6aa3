use Rattle.gr_model.proofs.Common.{◌∙◌, arith}
use Rattle.gr_timeline.proofs.JudgedLemmas.{not_below, record_waits}
use Rattle.gr_timeline.proofs.judged.Judged.record_of.Goals as goal

pub overflow_sub-event : goal.overflow_sub-event
overflow_sub-event g c =
    omega (arith, not_below c.args.self.now c.order-order.result.now _ c.order-order.ensures.order c.self.view_is c.self.invariant.0 c.frontier.result.now c.frontier.ensures.first c.args.event c.requires, c.get-handled.ensures.count)

pub returns : goal.returns
returns g c =
    c.waiting.ensures ∙ rw c.get-handled.ensures.count (record_waits c.args.self.now c.order-order.result.now _ c.order-order.ensures.order c.self.view_is c.self.invariant.0 c.frontier.result.now c.frontier.ensures.first c.windows.result.now (c.windows.ensures c.frontier.result.now c.frontier.ensures.first) c.args.event c.requires)
