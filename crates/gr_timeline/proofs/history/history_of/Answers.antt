use Rattle.gr_shadow.specs.StandsFor.{accesses_to}
use Rattle.gr_timeline.proofs.HistoryLemmas.{history_of_whole, hit_is_racy}
use Rattle.gr_timeline.proofs.history.history_of.Goals as goal

pub returns-clause-history : goal.returns-clause-history
returns-clause-history g c =
    let along = c.in_ok-follow.ensures.whole in
    history_of_whole c.args.traces.now c.args.word c.follow.new.kept.entries.items along.order along.whole along.accesses along.are along.stands.0

pub returns-clause-racy : goal.returns-clause-racy
returns-clause-racy g c =
    let along = c.in_ok-follow.ensures.whole in
    let hit = c.in_ok-racy.ensures (accesses_to c.args.word along.accesses) along.stands.1 in
    let racy = hit_is_racy c.args.traces.now c.args.word c.follow.new.kept.entries.items along.order along.whole along.accesses along.are along.stands.0 in
    (λ yes. racy.0 (hit.0 yes), λ is. hit.1 (racy.1 is))
