use Rattle.gr_model.proofs.Common.{arith}
use Rattle.std.proofs.lemmas.Slice.Zip.{AllZip-long}
use Rattle.gr_races.specs.Causes.{IsCauseOf}
use Rattle.gr_races.specs.Relaxing.{relaxed}
use Rattle.gr_races.specs.declared.relaxing.Relaxation.TheVariants.{BothFlags, DeviceScope}
use Rattle.gr_explain.specs.Judged.{IsJudged}
use Rattle.gr_explain.proofs.AnswerLemmas.{answer_at, answers_next}
use Rattle.gr_races.proofs.cause.causes_from.Goals as goal

pub loop-place-preserved : goal.loop-place-preserved
loop-place-preserved g c =
    answers_next (IsCauseOf c.args.lanes.now.streams) c.args.races.now c.loop-place.place _ c.loop-place.causes.items c.push.new.self.items c.cause_from.result c.loop-place-test.true c.in_ok-push.ensures.items c.loop-place.invariant c.cause_from.ensures

pub bounds-with_flags-place : goal.bounds-with_flags-place
bounds-with_flags-place g c = omega (arith, c.loop-place-test.true, AllZip-long (IsJudged (relaxed BothFlags c.args.lanes.now.streams)) c.args.races.now c.args.with_flags.now c.requires.flags)

pub bounds-with_scope-place : goal.bounds-with_scope-place
bounds-with_scope-place g c = omega (arith, c.loop-place-test.true, AllZip-long (IsJudged (relaxed DeviceScope c.args.lanes.now.streams)) c.args.races.now c.args.with_scope.now c.requires.scope)

pub cause_from-requires-clause-flags : goal.cause_from-requires-clause-flags
cause_from-requires-clause-flags g c =
    let s = c.args.lanes.now.streams in
    c.is_mended-by_flags.ensures s BothFlags _ _ _ (answer_at (IsJudged (relaxed BothFlags s)) c.args.races.now c.args.with_flags.now c.loop-place.place _ _ c.requires.flags c.loop-place-test.true)

pub cause_from-requires-clause-scope : goal.cause_from-requires-clause-scope
cause_from-requires-clause-scope g c =
    let s = c.args.lanes.now.streams in
    c.is_mended-by_scope.ensures s DeviceScope _ _ _ (answer_at (IsJudged (relaxed DeviceScope s)) c.args.races.now c.args.with_scope.now c.loop-place.place _ _ c.requires.scope c.loop-place-test.true)
