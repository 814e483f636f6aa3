use Rattle.gr_model.proofs.Common.{arith}
use Rattle.gr_agenda.proofs.UndivergedLemmas.{undiverged_if}
use Rattle.gr_agenda.proofs.agenda.mark_undiverged.Goals as goal

pub returns-in-Some : goal.returns-in-Some
returns-in-Some g c are h k told divergent =
    let stuck = rw c.in-Item.is at c.requires in
    grind (arith, are h k, c.tell_undiverged.ensures, undiverged_if c.args.order.now c.sequence_holds.ensures c.in-Item.item c.in-Some.instance c.in-Some.ensures stuck)
