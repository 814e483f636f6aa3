use Rattle.gr_model.proofs.Common.{◌≡◌, ◌<◌, ℕ, Some, slice_get}
use Rattle.gr_agenda.specs.Types.{ItemId, Item}
use Rattle.gr_agenda.specs.Lists.{Has, KeepsSteps}
use Rattle.gr_agenda.proofs.waiting.put_all.Given as goal

abbrev pub invariant-loop-item : goal.invariant-loop-item
invariant-loop-item g l = ((p : ℕ) (i : ItemId) → p < l.item-index → slice_get l.list p ≡ Some i → Has l.worklist (Item i)) × KeepsSteps l.fn.worklist l.worklist
