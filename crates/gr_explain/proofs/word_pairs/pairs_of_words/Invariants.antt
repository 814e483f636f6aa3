use Rattle.gr_model.proofs.Common.{ℕ, [], take}
use Rattle.gr_model.specs.declared.event.EventId.{EventId}
use Rattle.gr_explain.specs.WordPairs.{StandForWords}
use Rattle.gr_explain.proofs.word_pairs.pairs_of_words.Given as goal

abbrev pub invariant-loop-word : goal.invariant-loop-word
invariant-loop-word g l = (tag_of : EventId → ℕ) → StandForWords tag_of (take l.word-index l.words) [] l.pairs.entries
