use Rattle.gr_model.proofs.Common.{◌≡◌}
use Rattle.gr_sequencer_thread.proofs.on_way.PassingKeeper.close.Given as goal

abbrev pub invariant-loop-worker : goal.invariant-loop-worker
invariant-loop-worker g l = l.kept-inside.ways.items ≡ l.initial.kept-inside.ways.items
