use Rattle.gr_model.proofs.Common.{◌∙◌, sym}
use Rattle.clap.proofs.FaultLemmas.{failed_up, fails_as}
use Rattle.gr_arguments.proofs.Meeting.{asks_to, faults_are, is_free}
use Rattle.gr_arguments.proofs.request.request_of.Goals as goal

pub returns-in_err-matches-clause-fails : goal.returns-in_err-matches-clause-fails
returns-in_err-matches-clause-fails g c =
    let is = c.in_ok-command.ensures in fails_as _ _ _ (faults_are _ is _) (failed_up _ _ _ _ c.from_residual-in_err-matches.ensures.1 (c.in_err-matches.ensures.kinds (is_free _ is)))

pub returns-clause-fails : goal.returns-clause-fails
returns-clause-fails g c =
    let is = c.in_ok-command.ensures in sym (faults_are _ is _) ∙ c.in_ok-matches.ensures.kinds (is_free _ is)

pub returns-clause-asks : goal.returns-clause-asks
returns-clause-asks g c =
    asks_to _ c.in_ok-command.ensures _ _ c.in_ok-matches.ensures.matches _ (returns-clause-fails g c) c.in_ok-request_in.ensures
