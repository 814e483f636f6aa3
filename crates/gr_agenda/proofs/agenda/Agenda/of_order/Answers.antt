use Rattle.gr_model.proofs.Common.{arith}
use Rattle.gr_agenda.proofs.KeptLemmas.{kept_nothing}
use Rattle.gr_agenda.proofs.agenda.Agenda.of_order.Goals as goal

pub invariant_of-result : goal.invariant_of-result
invariant_of-result g c = (
  kept_nothing c.args.order.taken.sizes c.args.order c.requires c.new-worklist.result c.args.waiting.items,
  grind (arith, c.new-undiverged.ensures),
)
