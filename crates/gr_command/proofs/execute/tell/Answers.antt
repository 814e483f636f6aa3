use Rattle.gr_command.proofs.AnswerLemmas.{sides_outcome}
use Rattle.gr_command.proofs.execute.tell.Goals as goal

pub returns-then-arguments : goal.returns-then-arguments
returns-then-arguments g c =
    let r = c.tell_files-outcome in
    rw (c.if-arguments.true, ← c.as_slice-files.ensures.value)
    (sides_outcome (λ found. found) r.result _ c.answered.ensures r.ensures.shown r.ensures.fault r.ensures.untouched r.ensures.prefix)

pub returns-else-arguments : goal.returns-else-arguments
returns-else-arguments g c =
    let r = c.tell_files-outcome-else-arguments in
    rw (c.if-arguments.false, ← c.as_slice-files.ensures.value)
    (sides_outcome (λ found. found) r.result _ c.answered-else-arguments.ensures r.ensures.shown r.ensures.fault r.ensures.untouched r.ensures.prefix)
