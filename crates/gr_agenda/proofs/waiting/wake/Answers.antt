use Rattle.gr_model.proofs.Common.{refl, arith, sym}
use Rattle.gr_agenda.proofs.ListLemmas.{waiting_cases, waiting_in}
use Rattle.gr_agenda.proofs.waiting.wake.Goals as goal

pub returns-in-Some-clause-woken : goal.returns-in-Some-clause-woken
returns-in-Some-clause-woken g c i waits = rw c.deref.ensures.value at (c.put_all.ensures.there i)
    (waiting_in c.args.lists.now.items c.bucket_of.result c.in-Some.list.now c.in-Some.list.now
    (omega (arith, c.args.lists.now.ok.0, c.in-Some.ensures.variant.0 refl)) c.in-Some.ensures.value c.args.named i (sym c.bucket_of.ensures) waits)

pub returns-in-Some-clause-others : goal.returns-in-Some-clause-others
returns-in-Some-clause-others g c n i waits =
    let cases = waiting_cases c.args.lists.now.items c.bucket_of.result c.in-Some.list.now c.clear.new.self
    (omega (arith, c.args.lists.now.ok.0, c.in-Some.ensures.variant.0 refl)) c.in-Some.ensures.value n i waits in
    grind (arith, c.put_all.ensures.there i, c.deref.ensures.value, cases)
