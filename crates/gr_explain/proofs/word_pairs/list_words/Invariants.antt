use Rattle.gr_model.proofs.Common.{◌≡◌, ◌++◌, drop}
use Rattle.gr_explain.specs.WordPairs.{races_at}
use Rattle.gr_explain.proofs.word_pairs.list_words.Given as goal

abbrev pub invariant-loop-word : goal.invariant-loop-word
invariant-loop-word g l = l.races.items ++ races_at l.pairs.entries (drop l.word-index l.words) ≡ races_at l.pairs.entries l.words
