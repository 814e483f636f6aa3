use Rattle.gr_model.proofs.Common.{◌++◌, ◌∷◌, [], refl}
use Rattle.gr_lanes.proofs.Growth.{record_grows}
use Rattle.gr_order.specs.Sequences.{taking}
use Rattle.gr_shadow.specs.Lent.{lent_clocked}
use Rattle.gr_steps.proofs.StepGrowth.{lawful_grows}
use Rattle.gr_closure.proofs.Adding.{handled_adds}
use Rattle.gr_taking.proofs.TakenLemmas.{along_stays}
use Rattle.gr_taking.proofs.taking.take_one.Goals as goal

pub returns-in-Ok-None-clause-along : goal.returns-in-Ok-None-clause-along
returns-in-Ok-None-clause-along g c =
    let waits = rw c.in-Ok-None.field-0-is at c.in-Ok-None.ensures.waits in
    along_stays (g.K.Keeper.stands c.args.keeper.now) _ _ _ _ c.args.kept.now c.requires.sequence c.requires.can waits.1 c.requires.along

pub access_of-requires-clause-last : goal.access_of-requires-clause-last
access_of-requires-clause-last g c =
    let q = c.args.sequencer.now in
    let goes = rw c.in-Ok-Some.field-0-is at c.in-Ok-Some.ensures.goes in
    (taking q c.args.group c.args.event, lawful_grows q.taken _ (record_grows q.taken c.args.group c.args.event c.requires.sequence.prefixes c.requires.can) q.handled c.requires.sequence.lawful, goes.1)

pub returns-in_ok-add-in-Ok-Some-clause-along : goal.returns-in_ok-add-in-Ok-Some-clause-along
returns-in_ok-add-in-Ok-Some-clause-along g c =
    let taken = taking c.args.sequencer.now c.args.group c.args.event in
    let goes = rw c.in-Ok-Some.field-0-is at c.in-Ok-Some.ensures.goes in
    let before = along_stays (g.K.Keeper.stands c.args.keeper.now) _ taken _ _ c.args.kept.now c.requires.sequence c.requires.can refl c.requires.along in
    let x = lent_clocked c.access_of.result in
    (before.0 ++ x ∷ [], rw goes.1.taken (handled_adds taken.taken taken.handled _ c.in-Ok-Some.handled before.0 x goes.1.handles before.1 (rw (← goes.1.taken) c.access_of.ensures)), c.in_ok-add-in-Ok-Some.ensures before.0 before.2)
