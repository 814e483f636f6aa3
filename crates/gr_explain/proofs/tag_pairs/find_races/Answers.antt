use Rattle.gr_model.proofs.Common.{arith, take, take_more}
use Rattle.gr_shadow.specs.Lent.{lent_clocked}
use Rattle.gr_explain.proofs.TagPairLemmas.{finds_more}
use Rattle.gr_explain.proofs.tag_pairs.find_races.Goals as goal

pub loop-alike-preserved : goal.loop-alike-preserved
loop-alike-preserved g c = grind (arith, take_more, finds_more (lent_clocked c.args.access.now) c.args.tag (take c.loop-alike.alike-index c.args.lists.now) c.alike-item.result c.args.found.now.items c.loop-alike.found.items c.find_among.new.found.items)
