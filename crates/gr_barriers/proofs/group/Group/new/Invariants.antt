use Rattle.gr_model.proofs.Common.{◌≡◌, [], map, replicate}
use Rattle.gr_barriers.proofs.group.Group.new.Given as goal

abbrev pub invariant-loop-item : goal.invariant-loop-item
invariant-loop-item g l = map (λ v. v.items) l.marks.items ≡ replicate l._item []
