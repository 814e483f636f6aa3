use Rattle.gr_model.proofs.Common.{take}
use Rattle.gr_taking.specs.Taken.{read_by}
use Rattle.gr_explain.specs.Judged.{AreJudgements}
use Rattle.gr_explain.proofs.judging.judge_races.Given as goal

abbrev pub invariant-loop-race : goal.invariant-loop-race
invariant-loop-race g l = AreJudgements (read_by (g.R.Reading.read_as l.fn.reading) l.traces) (take l.race-index l.races) l.judgements.items
