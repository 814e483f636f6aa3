use Rattle.gr_model.proofs.Common.{◌≡◌, ◌<◌, ℕ, [], get_or}
use Rattle.gr_taking.specs.Sources.{ListedRecords}
use Rattle.gr_sequencer_thread.proofs.backlog.are_empty.Given as goal

abbrev pub invariant-loop-group : goal.invariant-loop-group
invariant-loop-group g l = (k : ℕ) (d : ListedRecords) → k < l.group → (get_or l.backlogs k d).records ≡ []
