use Rattle.gr_model.proofs.Common.{◌≡◌, ◌++◌, map, take}
use Rattle.gr_explain.proofs.TagRaceLemmas.{race_of}
use Rattle.gr_explain.proofs.word_pairs.list_word.Given as goal

abbrev pub invariant-loop-found : goal.invariant-loop-found
invariant-loop-found g l = l.races.items ≡ l.fn.races.items ++ map race_of (take l.found-index l.found-items)
