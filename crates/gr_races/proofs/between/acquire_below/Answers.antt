use Rattle.gr_model.proofs.Common.{◌∙◌, None, ap, arith, last_or, map-id, rules, sym, tests}
use Rattle.std.proofs.lemmas.Iterator.{YieldsList-from_range, items_from_drains}
use Rattle.std.proofs.lemmas.Iterator.Consumers.{YieldsList-from_filter}
use Rattle.gr_races.specs.Between.{is_acquire_at}
use Rattle.gr_races.proofs.between.acquire_below.Goals as goal

pub returns : goal.returns
returns g c =
    let ran = c.last.ensures.ran in
    ran.2 ∙ ap (last_or None) (sym (map-id ran.0) ∙ items_from_drains ran.0 (ran.1.1.0, ran.1.1.1, λ _. (ran.1.0, ran.1.1.2))
    (YieldsList-from_filter _ (is_acquire_at c.args.records.now c.args.at) (YieldsList-from_range 0 c.args.index c.args.index (cc) (omega arith)) c.filter.ensures.closure (λ x r q k. search (rules, tests))))
