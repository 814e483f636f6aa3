use Rattle.gr_model.proofs.Common.{[], ap, subst, sym, ◌∙◌}
use Rattle.gr_closure.specs.AccessesAlong.{AreAccesses, of_none}
use Rattle.gr_order.specs.Sequences.{Sequence, nothing}
use Rattle.gr_taking.specs.Taken.{read_by}
use Rattle.gr_taking.proofs.Lists.{all_came, lists_may_come, some_came}
use Rattle.gr_taking.proofs.TakenLemmas.{some_along, whole_at_end}
use Rattle.gr_taking.proofs.traces.follow_until.Goals as goal

pub take_until-requires-clause-may : goal.take_until-requires-clause-may
take_until-requires-clause-may g c =
    let new = c.in_ok-sequencer.ensures ∙ ap nothing (c.in_ok-copy.ensures ∙ c.shape.ensures.sizes) in
    rw (c.as_mut_slice.ensures.value, new) (lists_may_come (read_by (g.R.Reading.read_as c.args.reading) c.args.traces.now) (c.requires.accepted c.shape.ensures.accepted) c.in_ok-sources.sources.items c.in_ok-sources.ensures)

pub take_until-requires-clause-along : goal.take_until-requires-clause-along
take_until-requires-clause-along g c = ([], subst (λ (q : Sequence). AreAccesses q.taken q.handled []) (sym c.in_ok-sequencer.ensures) of_none, c.requires.stands)

pub returns-clause-some : goal.returns-clause-some
returns-clause-some g c =
    let new = c.in_ok-sequencer.ensures ∙ ap nothing (c.in_ok-copy.ensures ∙ c.shape.ensures.sizes) in
    let all = c.in_ok-all.ensures in
    let same = rw (c.as_mut_slice.ensures.value, new) at all.come in
    some_along (g.K.Keeper.stands c.args.keeper.now) (read_by (g.R.Reading.read_as c.args.reading) c.args.traces.now) c.take_until.new.sequencer c.take_until.new.kept
    (some_came (read_by (g.R.Reading.read_as c.args.reading) c.args.traces.now) (c.requires.accepted c.shape.ensures.accepted) c.in_ok-sources.sources.items c.in_ok-sources.ensures _ c.take_until.new.sources (all.sizes ∙ ap (λ (p : Sequence). p.taken.sizes) new) all.sequence.prefixes.count same)
    all.sequence all.along

pub returns-clause-whole : goal.returns-clause-whole
returns-clause-whole g c every =
    let new = c.in_ok-sequencer.ensures ∙ ap nothing (c.in_ok-copy.ensures ∙ c.shape.ensures.sizes) in
    let all = c.in_ok-all.ensures in
    let same = rw (c.as_mut_slice.ensures.value, new) at all.come in
    whole_at_end (g.K.Keeper.stands c.args.keeper.now) (read_by (g.R.Reading.read_as c.args.reading) c.args.traces.now) c.take_until.new.sequencer c.take_until.new.kept
    (all_came (read_by (g.R.Reading.read_as c.args.reading) c.args.traces.now) (c.requires.accepted c.shape.ensures.accepted) c.in_ok-sources.sources.items c.in_ok-sources.ensures _ c.take_until.new.sources (all.sizes ∙ ap (λ (p : Sequence). p.taken.sizes) new) all.sequence.prefixes.count same (all.none every))
    (all.done every) all.sequence all.along
