use Rattle.gr_model.proofs.Common.{◌≡◌, ◌+◌, ◌-◌, List, [], length}
use Rattle.gr_model.specs.declared.event.Event.{Event}
use Rattle.gr_model.specs.Prelude.{put}
use Rattle.gr_windows.proofs.windows.Windows.with_group.Given as goal

abbrev pub invariant-loop-alloc : goal.invariant-loop-alloc
invariant-loop-alloc g l = (row : List (List Event)) → put [] l.rows.items l.group row ≡ put [] l.fn.self l.group row

abbrev pub decreases-loop-alloc : goal.decreases-loop-alloc
decreases-loop-alloc g l = l.group + 1 - length l.rows.items
