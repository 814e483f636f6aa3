use Rattle.gr_barriers.proofs.InstanceLemmas.{item_arrives, item_there}
use Rattle.gr_barriers.proofs.instances.Instances.arrive.Goals as goal

pub returns-clause-arrives : goal.returns-clause-arrives
returns-clause-arrives g c =
    let there = item_there c.self.inside.groups.items c.args.item (rw (← c.self.view_is) at (c.has.ensures.0 c.if-not-has.false)) in
    rw (← c.self.view_is, ← c.new.ensures) (item_arrives c.self.inside.groups.items c.args.item c.new.result c.index_mut-barriers.result.now c.arrive.new.self there.0 there.1 c.index_mut-barriers.ensures.value c.in_ok-instance.ensures.ok)
