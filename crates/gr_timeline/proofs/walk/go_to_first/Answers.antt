use Rattle.gr_model.proofs.Common.{arith}
use Rattle.gr_timeline.specs.declared.reason.Reason.TheVariants.{Behind}
use Rattle.gr_timeline.proofs.WalkLemmas.{chain_more, visited_stays}
use Rattle.gr_timeline.proofs.WaitLemmas.{earlier_there, first_behind}
use Rattle.gr_timeline.proofs.walk.go_to_first.Goals as goal

pub returns-in_ok-push-clause-held : goal.returns-in_ok-push-clause-held
returns-in_ok-push-clause-held g c =
    let behind = first_behind c.args.judged.now c.args.event c.first_held-first.result c.first_held-first.ensures.item c.first_held-first.ensures.grounded c.if-first-event.true in
    (record { event = earlier_there c.args.judged.now c.first_held-first.result c.args.event c.requires.held.event behind.item behind.before; held = behind.first.held }, behind.first)

pub returns-in_ok-push-clause-chain : goal.returns-in_ok-push-clause-chain
returns-in_ok-push-clause-chain g c e chain =
    let behind = first_behind c.args.judged.now c.args.event c.first_held-first.result c.first_held-first.ensures.item c.first_held-first.ensures.grounded c.if-first-event.true in
    rw c.in_ok-push.ensures.items (chain_more c.args.judged.now e c.args.event c.args.links.now.items (Behind c.first_held-first.result) c.requires.held behind chain)

pub returns-in_ok-push-clause-visited : goal.returns-in_ok-push-clause-visited
returns-in_ok-push-clause-visited g c visited are =
    rw c.in_ok-push.ensures.items (visited_stays c.args.judged.now c.args.links.now.items _ visited are)

pub returns-else-first-event-clause-held : goal.returns-else-first-event-clause-held
returns-else-first-event-clause-held g c =
    (c.requires.held, record { held = c.requires.held.held; passed = λ d at lt. (c.first_held-first.ensures.grounded d at).1 (omega (arith, lt, c.if-first-event.false)) })
