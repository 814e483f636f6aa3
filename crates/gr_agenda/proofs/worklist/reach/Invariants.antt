use Rattle.gr_model.proofs.Common.{◌≡◌, ◌-◌, ℕ, true, Some, slice_get, length}
use Rattle.gr_agenda.proofs.worklist.reach.Given as goal

abbrev pub invariant-loop-marks : goal.invariant-loop-marks
invariant-loop-marks g l = (p : ℕ) → slice_get l.marks.items p ≡ Some true → slice_get l.initial.marks.items p ≡ Some true

abbrev pub decreases-loop-marks : goal.decreases-loop-marks
decreases-loop-marks g l = l.count - length l.marks.items
