use Rattle.gr_timeline.proofs.JudgedLemmas.{first_grounded}
use Rattle.gr_timeline.proofs.judged.Judged.first_held.Goals as goal

pub returns-clause-grounded : goal.returns-clause-grounded
returns-clause-grounded g c =
    first_grounded c.args.self.now c.order.result.now _ c.order.ensures.order c.self.view_is c.self.invariant.0 c.frontier.result.now c.frontier.ensures.first c.args.item c.get.result c.get.ensures.count
