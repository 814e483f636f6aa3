use Rattle.gr_model.proofs.Common.{on_ok_weaker}
use Rattle.gr_shadow.specs.Lent.{lent_clocked}
use Rattle.gr_explain.proofs.TagPairLemmas.{tag_stands}
use Rattle.gr_explain.proofs.tag_pairs.TagPairs.add.Goals as goal

pub returns : goal.returns
returns g c = on_ok_weaker c.keep.result (λ keeps. λ tag_of accesses tag_is stands. tag_stands tag_of accesses (lent_clocked c.args.access.now) c.args.tag tag_is c.args.self.now (record { lists = c.keep.new.lists; found = c.find_races.new.found }) stands (rw c.deref.ensures.value at c.in_ok-find_races.ensures) keeps) c.keep.ensures
