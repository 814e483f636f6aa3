use Rattle.gr_model.proofs.Common.{◌≡◌}
use Rattle.gr_sequencer_thread.specs.Feeds.{work_on_way}
use Rattle.gr_sequencer_thread.proofs.way.Way.find_lists.Given as goal

abbrev pub invariant-loop : goal.invariant-loop
invariant-loop g l = work_on_way l.self-inside.refused l.self-inside.batches.items l.self-inside.waiting ≡ l.fn.self
