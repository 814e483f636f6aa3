use Rattle.gr_model.proofs.Common.{take_all, All-get_or}
use Rattle.gr_taking.specs.Taken.{read_by}
use Rattle.gr_explain.specs.Accesses.{AreBothKept}
use Rattle.gr_explain.specs.Judged.{AreAccesses, IsJudged}
use Rattle.gr_explain.proofs.AnswerLemmas.{answers_next}
use Rattle.gr_explain.proofs.judging.judge_races.Goals as goal

pub loop-race-preserved : goal.loop-race-preserved
loop-race-preserved g c =
    let s = read_by (g.R.Reading.read_as c.args.reading) c.args.traces.now in
    let races = c.args.races.now in
    let i = c.loop-race.race-index in
    let lt = c.loop-race-test.true in
    let judged = c.judgement_of.ensures s (All-get_or (AreAccesses s) races i _ lt c.requires.accesses) (All-get_or (AreBothKept s c.in_ok-accesses.accesses.entries) races i _ lt c.in_ok-accesses.ensures) in
    answers_next (IsJudged s) races i _ c.loop-race.judgements.items c.push.new.self.items c.judgement_of.result lt c.in_ok-push.ensures.items c.loop-race.invariant judged

pub returns : goal.returns
returns g c = rw (← take_all c.loop-race.race-index c.args.races.now c.loop-race-test.false) c.loop-race.invariant
