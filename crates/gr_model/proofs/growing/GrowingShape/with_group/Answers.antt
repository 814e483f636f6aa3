use Rattle.gr_model.proofs.Common.{refl, arith}
use Rattle.gr_model.proofs.GroupLaws.{part_with_group}
use Rattle.gr_model.proofs.PutLemmas.{puts_last, puts_more}
use Rattle.gr_model.proofs.growing.GrowingShape.with_group.Goals as goal

pub loop-sizes-preserved : goal.loop-sizes-preserved
loop-sizes-preserved g c =
    puts_more 0 c.loop-sizes.sizes.items _ c.args.group 0 c.args.self c.loop-sizes.invariant (omega (arith, c.loop-sizes-test.true)) refl c.in_ok-push.ensures.items

pub returns : goal.returns
returns g c = puts_last 0 c.loop-sizes.sizes.items c.args.group c.args.items c.args.self c.loop-sizes.invariant (omega (arith, c.loop-sizes-test.false))

pub invariant_of-result : goal.invariant_of-result
invariant_of-result g c =
    let part = part_with_group c.args.self c.args.group c.args.items in
    grind (arith, returns g c, part, c.self.invariant, c.self.view_is, c.requires)
