use Rattle.gr_model.proofs.Common.{◌∙◌, ap, arith, rules, sym, tests, find}
use Rattle.std.proofs.lemmas.Iterator.{YieldsList-from_map}
use Rattle.std.proofs.lemmas.Iterator.Adapters.{option_map_id}
use Rattle.std.proofs.lemmas.Iterator.Consumers.{YieldsList-at, YieldsList-from_rest}
use Rattle.std.proofs.lemmas.Iterator.Search.{find_from_yields_List}
use Rattle.gr_shadow.specs.Lent.{lent_clocked}
use Rattle.gr_explain.specs.Alike.{AlikeEvents, entry_event, is_sought}
use Rattle.gr_explain.proofs.AlikeLemmas.{none_clashes, none_of_only}
use Rattle.gr_explain.proofs.alike.Alike.clashing.Goals as goal

pub returns-then-exempt : goal.returns-then-exempt
returns-then-exempt g c = grind (arith, none_clashes c.args.two c.self.inside.class (lent_clocked c.args.access.now))

pub returns-then-eq : goal.returns-then-eq
returns-then-eq g c = grind (arith, none_of_only c.args.two c.self.inside.class (lent_clocked c.args.access.now))

pub returns : goal.returns
returns g c =
    let test = is_sought c.args.two c.self.inside.class (lent_clocked c.args.access.now) in
    let found = find_from_yields_List test _ _ c.find.result c.find.ensures.ran
    (YieldsList-from_map _ entry_event (YieldsList-at c.map.ensures.source (YieldsList-from_rest c.self.inside.indexes.entries c.iter.ensures.rest)) c.map.ensures.closure (λ x r q k. search (rules, tests)))
    (λ x b q k. search (rules, tests)) in
    sym (option_map_id c.find.result) ∙ found ∙ ap (λ (s : AlikeEvents). find (is_sought c.args.two s.class (lent_clocked c.args.access.now)) s.events) c.self.view_is
