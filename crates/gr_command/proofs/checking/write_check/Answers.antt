use Rattle.gr_places.specs.Checked.{checked_said}
use Rattle.gr_command.proofs.checking.write_check.Goals as goal

pub returns-clause-prefix : goal.returns-clause-prefix
returns-clause-prefix g c = λ writing.
    let h = c.in_ok-checked.ensures.checked in
    rw (← c.as_slice.ensures.value) (h.0, h.1, (checked_said c.in_ok-checked.checked, h.2, c.deref.result.now, c.in-Err.ensures.prefix))
