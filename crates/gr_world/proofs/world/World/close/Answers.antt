use Rattle.gr_model.proofs.Common.{◌<◌, ap, arith, length, rules, subst}
use Rattle.gr_model.specs.Prelude.{size_of}
use Rattle.gr_world.specs.Worlds.{World, world_of}
use Rattle.gr_world.proofs.world.World.close.Goals as goal

pub put-requires-clause-good : goal.put-requires-clause-good
put-requires-clause-good g c =
    let w : World = world_of c.self.inside.config c.self.inside.sent.streams c.self.inside.intakes.items c.self.inside.sequencer c.self.inside.in_flight c.self.inside.workers.items in
    let there : c.args.group < length w.sent.sizes = omega (arith, c.if-group-groups.false, c.groups.ensures.count, ap length c.shape.ensures.sizes) in
    let some : 0 < size_of w.sent c.args.group = let size = c.self.invariant.shape.each c.args.group 0 there in omega (arith, size.0) in
    let now : 0 < size_of c.args.self.now.sent c.args.group = subst (λ (v : World). 0 < size_of v.sent c.args.group) c.self.view_is some in
    rw c.end.ensures (search (rules, now))
