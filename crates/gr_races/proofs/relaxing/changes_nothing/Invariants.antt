use Rattle.gr_model.proofs.Common.{◌≡◌, ◌<◌, ℕ, map}
use Rattle.gr_model.specs.Prelude.{list_of}
use Rattle.gr_races.specs.Relaxing.{relaxed_event}
use Rattle.gr_races.proofs.relaxing.changes_nothing.Given as goal

abbrev pub invariant-loop-group : goal.invariant-loop-group
invariant-loop-group g l = (k : ℕ) → k < l.group → map (relaxed_event l.fn.relaxation) (list_of l.fn.traces k) ≡ list_of l.fn.traces k
