use Rattle.gr_model.proofs.Common.{◌∙◌, arith, sym}
use Rattle.std.proofs.lemmas.List.Quantifiers.{position-Some}
use Rattle.gr_shadow.specs.Lent.{lent_clocked}
use Rattle.gr_explain.specs.TagPairs.{is_of_tags}
use Rattle.gr_explain.proofs.TagPairLemmas.{finds_none, finds_one, finds_set, none_at}
use Rattle.gr_explain.proofs.tag_pairs.find_among.Goals as goal

pub returns-in_ok-push-in-None : goal.returns-in_ok-push-in-None
returns-in_ok-push-in-None g c =
    grind (arith, none_at (is_of_tags c.args.alike.now.tag c.args.tag) c.args.found.now.items, finds_one (lent_clocked c.args.access.now) c.args.tag c.args.alike.now c.in-Some-clashing.earlier c.race_with-race.result c.prefer-in-Some-clashing.new.race c.args.found.now.items)

pub returns-in_default : goal.returns-in_default
returns-in_default g c = finds_none (lent_clocked c.args.access.now) c.args.tag c.args.alike.now c.args.found.now.items (sym c.clashing.ensures ∙ c.in_default.is)

pub returns-in-Some : goal.returns-in-Some
returns-in-Some g c = grind (arith, position-Some (is_of_tags c.args.alike.now.tag c.args.tag) c.args.found.now.items c.in-Some.place c.index_mut.result.now, finds_set (lent_clocked c.args.access.now) c.args.tag c.args.alike.now c.args.found.now.items c.in-Some.place c.index_mut.result.now c.prefer.new.race)
