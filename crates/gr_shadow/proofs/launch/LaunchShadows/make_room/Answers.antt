use Rattle.gr_shadow.proofs.LaunchLemmas.{pushed}
use Rattle.gr_shadow.proofs.launch.LaunchShadows.make_room.Goals as goal

pub loop-self-preserved : goal.loop-self-preserved
loop-self-preserved g c accesses stands = rw c.in_ok-push.ensures.items (pushed c.new.result (c.loop-self.invariant accesses stands) c.new.ensures)
