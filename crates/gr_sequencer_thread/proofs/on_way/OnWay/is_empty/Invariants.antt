use Rattle.gr_model.proofs.Common.{◌≡◌, ◌<◌, ℕ, List, [], get_or}
use Rattle.gr_clocks.specs.ClockedAccess.{ClockedAccess}
use Rattle.gr_sequencer_thread.proofs.on_way.OnWay.is_empty.Given as goal

abbrev pub invariant-loop-worker : goal.invariant-loop-worker
invariant-loop-worker g l = (k : ℕ) (d : List ClockedAccess) → k < l.worker → get_or l.self k d ≡ []
