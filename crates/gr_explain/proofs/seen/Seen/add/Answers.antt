use Rattle.gr_model.proofs.Common.{arith, nat_tests}
use Rattle.gr_explain.proofs.SeenLemmas.{HasMore, put_among}
use Rattle.gr_explain.proofs.seen.Seen.add.Goals as goal

pub returns-clause-events : goal.returns-clause-events
returns-clause-events g c e =
    let access = c.args.access.now in
    let more : HasMore access.item access.index c.add.new.self e c.self.inside.items.entries = λ m. grind (arith, nat_tests, c.in_ok-add.ensures) in
    grind (arith, put_among c.self.inside.items.entries access.item access.index c.add.new.self e more, c.in_ok-self-inside.ensures.update)
