use Rattle.gr_model.proofs.Common.{on_ok_weaker}
use Rattle.gr_lanes.proofs.LaneLemmas.{arrives_apart}
use Rattle.gr_lanes.proofs.lane.Lane.arrive.Goals as goal

pub returns-then-not-is_empty-clause-ok : goal.returns-then-not-is_empty-clause-ok
returns-then-not-is_empty-clause-ok g c = on_ok_weaker c.add_barrier.result (arrives_apart c.args.event.now c.requires.bare c.requires.lane) c.add_barrier.ensures.ok
