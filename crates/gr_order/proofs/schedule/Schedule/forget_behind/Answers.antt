use Rattle.gr_model.proofs.Common.{◌≡◌, arith}
use Rattle.gr_order.proofs.ForgetLemmas.{forgets_passed}
use Rattle.gr_order.proofs.schedule.Schedule.forget_behind.Goals as goal

pub invariant_of-self : goal.invariant_of-self
invariant_of-self g c =
    let stay : c.forget_if_passed.new.lanes.streams ≡ c.self.inside.lanes.streams = grind (arith, c.forget_if_passed.ensures) in record {
      kept = rw stay c.self.invariant.kept;
      forgets = forgets_passed c.self.inside.lanes c.self.invariant.kept.state.sequence.prefixes c.self.inside.frontier c.self.invariant.forgets c.args.group c.forget_if_passed.new.lanes c.forget_if_passed.ensures;
    }
