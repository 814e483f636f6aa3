use Rattle.gr_model.proofs.Common.{◌≡◌, arith, on_ok_weaker}
use Rattle.gr_order.specs.declared.steps.Ready.TheVariants.{Item}
use Rattle.gr_agenda.proofs.agenda.note.Goals as goal

pub returns-in-None-clause-noted : goal.returns-in-None-clause-noted
returns-in-None-clause-noted g c d n held is = grind (arith, c.in-None.ensures d n held, c.in-Item.is)

pub returns-in-Some-clause-noted : goal.returns-in-Some-clause-noted
returns-in-Some-clause-noted g c = on_ok_weaker c.wait.result
    (λ waits d n held is.
    let item : d.at ≡ c.in-Item.item = let step : c.args.step ≡ Item c.in-Item.item = c.in-Item.is in cc in
    (c.in-Some.named, c.in-Some.ensures d n held item, rw item waits))
    c.wait.ensures.there
