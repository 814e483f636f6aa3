use Rattle.gr_model.proofs.Common.{◌<◌, ℕ}
use Rattle.gr_order.specs.declared.steps.Ready.TheVariants.{Item}
use Rattle.gr_agenda.specs.Kept.{IsPending}
use Rattle.gr_agenda.specs.Lists.{Has, KeepsSteps}
use Rattle.gr_agenda.proofs.agenda.put_pending.Given as goal

abbrev pub invariant-loop-item : goal.invariant-loop-item
invariant-loop-item g l = ((k : ℕ) → k < l.item → IsPending l.order (record { group = l.group; item = k }) → Has l.worklist (Item (record { group = l.group; item = k }))) × KeepsSteps l.fn.worklist l.worklist
