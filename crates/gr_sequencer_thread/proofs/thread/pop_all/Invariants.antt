use Rattle.gr_model.proofs.Common.{◌≡◌}
use Rattle.gr_sequencer_thread.specs.Feeds.{intakes_of}
use Rattle.gr_sequencer_thread.proofs.thread.pop_all.Given as goal

abbrev pub invariant-loop : goal.invariant-loop
invariant-loop g l = intakes_of l.inlets.items ≡ intakes_of l.initial.inlets.items
