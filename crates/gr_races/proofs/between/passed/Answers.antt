use Rattle.gr_model.proofs.Common.{rules, tests}
use Rattle.std.proofs.lemmas.Iterator.{YieldsList-from_slice, YieldsList-from_take, items_from_collect}
use Rattle.std.proofs.lemmas.Iterator.Adapters.{YieldsList-from_skip}
use Rattle.std.proofs.lemmas.Iterator.Consumers.{YieldsList-at, YieldsList-from_enumerate, YieldsList-from_filter, YieldsList-from_filter_map}
use Rattle.gr_model.specs.Prelude.{is_barrier, is_of}
use Rattle.gr_races.specs.Between.{crossing_of}
use Rattle.gr_races.proofs.between.passed.Goals as goal

pub returns : goal.returns
returns g c =
    items_from_collect _ c.collect.ensures.ran
    (YieldsList-from_filter_map _ crossing_of
    (YieldsList-at c.filter_map.ensures.source
    (YieldsList-from_skip c.args.from
    (YieldsList-at c.skip.ensures.source
    (YieldsList-from_enumerate
    (YieldsList-at c.enumerate.ensures.source
    (YieldsList-from_filter _ is_barrier
    (YieldsList-at c.filter-2.ensures.source
    (YieldsList-from_take c.args.index
    (YieldsList-at c.take.ensures.source
    (YieldsList-from_filter _ (is_of c.args.item)
    (YieldsList-from_slice c.args.list.now (cc))
    c.filter.ensures.closure (λ x r q k. search (rules, tests))))
    c.take.ensures.count))
    c.filter-2.ensures.closure (λ x r q k. search (rules, tests))))
    c.enumerate.ensures.count))
    c.skip.ensures.count))
    c.filter_map.ensures.closure (λ x r q k. search (rules, tests)))
