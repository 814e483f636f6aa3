use Rattle.gr_model.proofs.Common.{◌∙◌, arith, sym}
use Rattle.gr_shadow.specs.Lent.{lent_clocked}
use Rattle.gr_explain.proofs.TagPairLemmas.{gives_way, stays}
use Rattle.gr_explain.proofs.tag_pairs.prefer.Goals as goal

pub returns-in-Some : goal.returns-in-Some
returns-in-Some g c = grind (arith, gives_way (lent_clocked c.args.access.now) c.args.alike.now c.args.race.now c.in-Some.earlier c.race_with.result)

pub returns-in_default : goal.returns-in_default
returns-in_default g c = stays (lent_clocked c.args.access.now) c.args.alike.now c.args.race.now (sym c.clashing.ensures ∙ c.in_default.is)
