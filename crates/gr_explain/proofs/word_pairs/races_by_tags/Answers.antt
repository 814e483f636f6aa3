use Rattle.gr_explain.proofs.TagRaceLemmas.{tag_races}
use Rattle.gr_explain.proofs.word_pairs.races_by_tags.Goals as goal

pub returns : goal.returns
returns g c =
    let along = c.in_ok-follow.ensures.whole in
    rw c.in_ok-races.ensures (tag_races c.args.traces.now along.order along.accesses along.whole along.are (g.T.Tags.tag_of c.args.tags.now) c.follow.new.kept.entries c.args.words.now c.requires.ascending along.stands)
