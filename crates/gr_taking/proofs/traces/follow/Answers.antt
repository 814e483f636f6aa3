use Rattle.gr_model.proofs.Common.{[], ap, subst, sym, ◌∙◌}
use Rattle.gr_closure.specs.AccessesAlong.{AreAccesses, of_none}
use Rattle.gr_order.specs.Sequences.{Sequence, nothing}
use Rattle.gr_taking.proofs.Lists.{all_came, lists_may_come, read_unchanged}
use Rattle.gr_taking.proofs.TakenLemmas.{whole_at_end}
use Rattle.gr_taking.proofs.traces.follow.Goals as goal

pub take_all-requires-clause-may : goal.take_all-requires-clause-may
take_all-requires-clause-may g c =
    let new = c.in_ok-sequencer.ensures ∙ ap nothing (c.in_ok-copy.ensures ∙ c.shape.ensures.sizes) in
    rw (c.as_mut_slice.ensures.value, new) (lists_may_come c.args.traces.now c.shape.ensures.accepted c.in_ok-sources.sources.items (rw (read_unchanged c.args.traces.now) at c.in_ok-sources.ensures))

pub take_all-requires-clause-along : goal.take_all-requires-clause-along
take_all-requires-clause-along g c = ([], subst (λ (q : Sequence). AreAccesses q.taken q.handled []) (sym c.in_ok-sequencer.ensures) of_none, c.requires)

pub returns-clause-taken : goal.returns-clause-taken
returns-clause-taken g c =
    let new = c.in_ok-sequencer.ensures ∙ ap nothing (c.in_ok-copy.ensures ∙ c.shape.ensures.sizes) in
    let all = c.in_ok-take_all.ensures in
    let same = rw (c.as_mut_slice.ensures.value, new) at all.come in
    all_came c.args.traces.now c.shape.ensures.accepted c.in_ok-sources.sources.items (rw (read_unchanged c.args.traces.now) at c.in_ok-sources.ensures) _ c.take_all.new.sources (all.sizes ∙ ap (λ (p : Sequence). p.taken.sizes) new) all.sequence.prefixes.count same all.none

pub returns-clause-whole : goal.returns-clause-whole
returns-clause-whole g c =
    let all = c.in_ok-take_all.ensures in
    whole_at_end (g.K.Keeper.stands c.args.keeper.now) c.args.traces.now c.take_all.new.sequencer c.take_all.new.kept (returns-clause-taken g c) all.done all.sequence all.along
