use Rattle.gr_model.proofs.Common.{arith}
use Rattle.gr_barriers.proofs.InstanceLemmas.{group_read, listed_skip, listed_more, listed_turn}
use Rattle.gr_barriers.proofs.instances.Instances.add_group.Goals as goal
use Rattle.gr_barriers.proofs.instances.Instances.add_group.Goals.{in-Some+in_ok-push, in_default}

pub loop-instance-preserved : goal.loop-instance-preserved
loop-instance-preserved g c =
    let is = group_read c.self.view_is c.args.group c.index-barriers.result.now c.requires.group c.index-barriers.ensures in
    elim c.match-cause.branch [
      | in-Some+in_ok-push w ↦ rw (w.list-is, w.in_ok-push.ensures.items) (listed_more c.args.self.now c.args.group c.loop-instance.instance c.loop-instance.list.items c.loop-instance.invariant c.requires.group w.in-Some.cause (rw is at w.in-Some.ensures))
      | in_default w ↦ rw w.list-is (listed_skip c.args.self.now c.args.group c.loop-instance.instance c.loop-instance.list.items c.loop-instance.invariant (rw is at w.in_default.ensures))
    ]

pub returns : goal.returns
returns g c =
    let is = group_read c.self.view_is c.args.group c.index-barriers.result.now c.requires.group c.index-barriers.ensures in
    listed_turn c.args.self.now c.args.group c.loop-instance.instance c.loop-instance.list.items c.loop-instance.invariant (λ n le. (rw is at c.instances-instance-end.ensures) n (omega arith))
