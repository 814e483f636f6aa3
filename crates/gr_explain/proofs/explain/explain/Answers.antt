use Rattle.gr_explain.proofs.RacePairs.{least_race}
use Rattle.gr_explain.proofs.explain.explain.Goals as goal

pub follow-requires : goal.follow-requires
follow-requires g c = c.new-search.ensures c.args.word

pub returns : goal.returns
returns g c =
    let along = c.in_ok-follow.ensures.whole in
    least_race c.args.traces.now c.args.word along.order along.accesses along.whole along.are c.follow.new.kept.least along.stands.least
