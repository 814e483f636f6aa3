use Rattle.gr_model.proofs.Common.{take}
use Rattle.gr_sequencer.specs.Sources.{sources_in}
use Rattle.gr_sequencer.proofs.Teaching.{AreSourcesOf}
use Rattle.gr_sequencer.proofs.sources.sources_from.Given as goal

abbrev pub invariant-loop-name : goal.invariant-loop-name
invariant-loop-name g l = AreSourcesOf l.order.taken l.event (take l.name-index l.taken.names) (sources_in l.learned)
