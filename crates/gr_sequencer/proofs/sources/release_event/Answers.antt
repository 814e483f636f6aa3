use Rattle.gr_model.proofs.Common.{arith}
use Rattle.gr_model.specs.Prelude.{is_release}
use Rattle.gr_lanes.proofs.IndexLemmas.{record_is}
use Rattle.gr_sequencer.proofs.sources.release_event.Goals as goal

pub returns : goal.returns
returns g c = grind (arith, c.release_event.ensures, c.lanes.ensures.taken, record_is c.args.order.now.taken is_release c.args.name.at c.args.name.release c.args.index)
