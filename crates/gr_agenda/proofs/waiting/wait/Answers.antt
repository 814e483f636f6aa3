use Rattle.gr_model.proofs.Common.{arith, refl, sym, subst}
use Rattle.gr_agenda.specs.Lists.{IsAmong}
use Rattle.gr_agenda.proofs.ListLemmas.{among_last, among_more, waiting_kept, waiting_new}
use Rattle.gr_agenda.proofs.waiting.wait.Goals as goal

pub returns-in_err-push-in-Some-clause-keeps : goal.returns-in_err-push-in-Some-clause-keeps
returns-in_err-push-in-Some-clause-keeps g c =
    waiting_kept c.args.lists.now.items c.bucket_of.result c.in-Some.list.now c.push.new.self (omega (arith, c.args.lists.now.ok.0, c.in-Some.ensures.variant.0 refl)) c.in-Some.ensures.value
    (λ i there. subst (λ l. IsAmong l i) (sym c.in_err-push-in-Some.ensures.items) there)

pub returns-in_ok-push-in-Some-clause-there : goal.returns-in_ok-push-in-Some-clause-there
returns-in_ok-push-in-Some-clause-there g c =
    waiting_new c.args.lists.now.items c.bucket_of.result c.in-Some.list.now c.push.new.self (omega (arith, c.args.lists.now.ok.0, c.in-Some.ensures.variant.0 refl)) c.in-Some.ensures.value c.args.named c.args.item (sym c.bucket_of.ensures)
    (subst (λ l. IsAmong l c.args.item) (sym c.in_ok-push-in-Some.ensures.items) (among_last c.in-Some.list.now.items c.args.item))

pub returns-in_ok-push-in-Some-clause-keeps : goal.returns-in_ok-push-in-Some-clause-keeps
returns-in_ok-push-in-Some-clause-keeps g c =
    waiting_kept c.args.lists.now.items c.bucket_of.result c.in-Some.list.now c.push.new.self (omega (arith, c.args.lists.now.ok.0, c.in-Some.ensures.variant.0 refl)) c.in-Some.ensures.value
    (λ i there. subst (λ l. IsAmong l i) (sym c.in_ok-push-in-Some.ensures.items) (among_more c.in-Some.list.now.items c.args.item i there))
