use Rattle.gr_report.specs.Whole.{whole_of}
use Rattle.gr_command.proofs.AnswerLemmas.{both, run_outcome}
use Rattle.gr_command.proofs.execute.ask.Goals as goal

pub returns-then-long : goal.returns-then-long
returns-then-long g c = rw (c.in-Explain.is, c.if-long.true) c.tell.ensures

pub returns-else-long : goal.returns-else-long
returns-else-long g c = rw (c.in-Explain.is, c.if-long.false) c.tell-else-long.ensures

pub returns-in-Races : goal.returns-in-Races
returns-in-Races g c = rw c.in-Races.is c.tell-in-Races.ensures

pub returns-in-History : goal.returns-in-History
returns-in-History g c = rw c.in-History.is c.tell-in-History.ensures

pub returns-in-Run : goal.returns-in-Run
returns-in-Run g c =
    let r = c.run_files in
    rw c.in-Run.is (run_outcome whole_of r.result _ c.reported.ensures (both _ _ r.result r.ensures.report r.ensures.text) r.ensures.fault r.ensures.untouched r.ensures.prefix)

pub returns-in-Check : goal.returns-in-Check
returns-in-Check g c =
    let r = c.write_check in
    rw c.in-Check.is (run_outcome (λ accepted. accepted) r.result _ c.checked.ensures r.ensures.checked r.ensures.fault r.ensures.untouched r.ensures.prefix)

pub returns-in-WhyHeld : goal.returns-in-WhyHeld
returns-in-WhyHeld g c = rw c.in-WhyHeld.is c.tell-in-WhyHeld.ensures
