use Rattle.gr_model.proofs.Common.{◌≤◌, ◌<◌, ℕ, [], length, get_or}
use Rattle.gr_model.specs.declared.limits.TheConstants.{MOST_RECORDS}
use Rattle.gr_barriers.proofs.group.Group.instances.Given as goal

abbrev pub invariant-loop-item : goal.invariant-loop-item
invariant-loop-item g l = record { most : (i : ℕ) → i < l.item → length (get_or l.self.marks i []) ≤ l.most; few : l.most ≤ MOST_RECORDS }
