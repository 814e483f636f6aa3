use Rattle.gr_model.proofs.Common.{◌≡◌, drop, list_any}
use Rattle.gr_shadow.specs.Lent.{lent_clocked}
use Rattle.gr_shadow.specs.Keeps.{all_touches, touch_clashes}
use Rattle.gr_shadow.proofs.touches.clashes_in_lists.Given as goal

abbrev pub invariant-loop-list : goal.invariant-loop-list
invariant-loop-list g l = list_any (touch_clashes (lent_clocked l.access)) (all_touches l.lists) ≡ list_any (touch_clashes (lent_clocked l.access)) (all_touches (drop l.list-index l.lists))
