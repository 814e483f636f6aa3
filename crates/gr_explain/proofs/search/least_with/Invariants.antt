use Rattle.gr_model.proofs.Common.{◌≡◌, ◌⊎◌, Some, take}
use Rattle.gr_shadow.specs.Lent.{lent_clocked}
use Rattle.gr_explain.specs.LeastRaces.{IsLeastOf}
use Rattle.gr_explain.specs.Search.{IsPairOf}
use Rattle.gr_explain.proofs.search.least_with.Given as goal

abbrev pub invariant-loop-seen : goal.invariant-loop-seen
invariant-loop-seen g l = IsLeastOf (λ p. (l.fn.least ≡ Some p) ⊎ IsPairOf (take l.seen-index l.classes) (lent_clocked l.access) p) l.least
