use Rattle.gr_model.proofs.Common.{◌≡◌, ◌<◌, ℕ, [], get_or, length}
use Rattle.gr_taking.specs.Sources.{ListedRecords}
use Rattle.gr_sequencer_thread.proofs.backlog.backlogs_of.Given as goal

abbrev pub invariant-loop-group : goal.invariant-loop-group
invariant-loop-group g l = record {
  count : length l.backlogs.items ≡ l.group;
  each : (k : ℕ) (d : ListedRecords) → k < length l.backlogs.items → get_or l.backlogs.items k d ≡ record { group = k; records = [] };
}
