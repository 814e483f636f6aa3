use Rattle.gr_model.proofs.Common.{take_all}
use Rattle.gr_explain.proofs.WordPairLemmas.{word_more}
use Rattle.gr_explain.proofs.word_pairs.pairs_of_words.Goals as goal

pub loop-word-preserved : goal.loop-word-preserved
loop-word-preserved g c tag_of =
    word_more tag_of c.args.words.now c.loop-word.word-index _ c.loop-word.pairs.entries c.insert.new.self.entries c.new.result
    c.loop-word-test.true (λ w. c.in_ok-insert.ensures.updates.0 w) (c.new.ensures tag_of) (c.loop-word.invariant tag_of)

pub returns : goal.returns
returns g c tag_of = rw (← take_all c.loop-word.word-index c.args.words.now c.loop-word-test.false) (c.loop-word.invariant tag_of)
