use Rattle.gr_model.proofs.Common.{refl}
use Rattle.gr_intake.proofs.Reporting.{races_are_listed}
use Rattle.gr_intake.proofs.reports.report_of.Goals as goal

pub returns : goal.returns
returns g c =
    let q = c.args.sequencer.now in
    record { rest = c.in_ok-report.ensures.but_races; races = rw c.in_ok-report.ensures.races (races_are_listed q.taken q c.args.shadows.now c.in_ok-races.races.items refl c.requires.done c.requires.sequence c.requires.shadows c.in_ok-races.ensures) }
