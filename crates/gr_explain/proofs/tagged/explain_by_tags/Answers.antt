use Rattle.gr_model.proofs.Common.{◌∷◌, [], arith}
use Rattle.gr_explain.proofs.RacePairs.{least_race}
use Rattle.gr_explain.proofs.TagRaceLemmas.{tag_races}
use Rattle.gr_explain.proofs.tagged.explain_by_tags.Goals as goal

pub follow-requires : goal.follow-requires
follow-requires g c = (c.new.ensures c.args.word, c.in_ok-pairs_of_words.ensures (g.T.Tags.tag_of c.args.tags.now))

pub returns-clause-least : goal.returns-clause-least
returns-clause-least g c =
    let along = c.in_ok-follow.ensures.whole in
    least_race c.args.traces.now c.args.word along.order along.accesses along.whole along.are c.follow.new.kept.search.least along.stands.0.least

pub returns-clause-races : goal.returns-clause-races
returns-clause-races g c =
    let along = c.in_ok-follow.ensures.whole in
    rw c.in_ok-races.ensures (tag_races c.args.traces.now along.order along.accesses along.whole along.are (g.T.Tags.tag_of c.args.tags.now) c.follow.new.kept.pairs.entries (c.args.word ∷ []) (λ i j d lt there. absurd (omega (arith, lt, there))) along.stands.1)
