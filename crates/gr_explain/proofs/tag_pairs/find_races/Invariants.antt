use Rattle.gr_model.proofs.Common.{take}
use Rattle.gr_shadow.specs.Lent.{lent_clocked}
use Rattle.gr_explain.specs.TagPairs.{Finds}
use Rattle.gr_explain.proofs.tag_pairs.find_races.Given as goal

abbrev pub invariant-loop-alike : goal.invariant-loop-alike
invariant-loop-alike g l = Finds (lent_clocked l.access) l.tag (take l.alike-index l.lists) l.fn.found.items l.found.items
