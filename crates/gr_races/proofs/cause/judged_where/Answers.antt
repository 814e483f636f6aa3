use Rattle.gr_model.proofs.Common.{All-weaker, IfOk-weaker}
use Rattle.gr_explain.specs.Judged.{AreAccesses}
use Rattle.gr_races.specs.Causes.{IsPairOf}
use Rattle.gr_races.specs.Relaxing.{relaxed}
use Rattle.gr_races.proofs.RelaxingLemmas.{all_still_race, still_accesses, still_all_accepted}
use Rattle.gr_races.proofs.cause.judged_where.Goals as goal

pub judge_races-requires-clause-accepted : goal.judge_races-requires-clause-accepted
judge_races-requires-clause-accepted g c = still_all_accepted c.args.relaxation c.args.traces.now

pub judge_races-requires-clause-accesses : goal.judge_races-requires-clause-accesses
judge_races-requires-clause-accesses g c =
    let s = c.args.traces.now in
    let r = c.args.relaxation in
    All-weaker (IsPairOf s) (AreAccesses (relaxed r s)) (still_accesses r s) c.args.races.now c.requires.pairs

pub returns-then-changes_nothing : goal.returns-then-changes_nothing
returns-then-changes_nothing g c =
    let same = c.changes_nothing.ensures c.if-changes_nothing.true in
    IfOk-weaker c.all_race.result _ _ (λ js is. rw is (all_still_race c.args.traces.now c.args.relaxation same c.args.races.now c.requires.pairs)) c.all_race.ensures
