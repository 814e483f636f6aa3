use Rattle.gr_model.proofs.Common.{arith}
use Rattle.gr_agenda.proofs.Named.{barrier_next}
use Rattle.gr_agenda.proofs.agenda.put_group.Goals as goal

pub returns-in_default-clause-there : goal.returns-in_default-clause-there
returns-in_default-clause-there g c can lt = absurd (grind (arith, c.waiting.ensures, barrier_next c.args.order.now.taken c.args.order.now.handled c.frontier-frontier.result.now c.frontier-frontier.ensures.first c.args.item can lt))
