use Rattle.gr_timeline.proofs.WalkLemmas.{chain_more}
use Rattle.gr_timeline.proofs.walk.go_on.Goals as goal

pub returns-clause-chain : goal.returns-clause-chain
returns-clause-chain g c e chain =
    let reason = rw c.deref.ensures.value at c.visit-reason.ensures.reason in
    rw (c.leads_to.ensures, c.in_ok-push.ensures.items) (chain_more c.args.judged.now e c.args.event c.args.links.now.items c.visit-reason.result c.requires.held reason chain)
