use Rattle.gr_order.proofs.ForgetLemmas.{whole_forgets}
use Rattle.gr_order.proofs.StateLemmas.{new_state}
use Rattle.gr_order.proofs.WaitLemmas.{none_wait}
use Rattle.gr_order.proofs.schedule.Schedule.of_lanes.Goals as goal

pub invariant_of-result : goal.invariant_of-result
invariant_of-result g c =
    let sizes = c.args.lanes.streams.sizes in
    let zero = rw c.shape.ensures.sizes at c.in-Ok.ensures.zero in
    let empty = rw c.shape-2.ensures.sizes at c.in_ok-windows.ensures in record {
      kept = record {
        state = new_state sizes c.args.lanes.streams c.requires.nothing c.shape.ensures.prefixes c.in-Ok.frontier zero c.new-handled.result c.new-handled.ensures;
        waits = none_wait sizes c.args.lanes.streams c.requires.nothing c.in-Ok.frontier c.in_ok-windows.windows empty;
      };
      forgets = whole_forgets c.args.lanes c.in-Ok.frontier c.requires.whole;
    }
