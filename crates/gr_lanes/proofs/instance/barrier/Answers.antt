use Rattle.gr_model.specs.Prelude.{trace_of}
use Rattle.gr_lanes.proofs.InstanceLemmas.{record_mark}
use Rattle.gr_lanes.proofs.instance.barrier.Goals as goal

pub returns : goal.returns
returns g c = rw c.barrier_event.ensures (record_mark (trace_of c.args.lanes.now.streams c.args.item) c.args.number)
