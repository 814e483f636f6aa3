use Rattle.gr_model.proofs.Common.{◌≡◌, ◌⊎◌, ◌∙◌, inr, subst, sym, true, IfErr-weaker, IfOk-weaker, err_from_is_err_and}
use Rattle.gr_record.specs.declared.fault.Fault.{Fault}
use Rattle.gr_record.specs.declared.fault.Fault.TheVariants as faults
use Rattle.gr_report.specs.Whole.{whole_of}
use Rattle.gr_command.proofs.AnswerLemmas.{of_any, of_each, of_report, run_fault}
use Rattle.gr_command.proofs.reporting.run_files.Goals as goal

pub returns-then-not-arguments-clause-report : goal.returns-then-not-arguments-clause-report
returns-then-not-arguments-clause-report g c =
    rw (← c.as_slice.ensures.value)
    (IfOk-weaker c.run_streams.result _ _ (λ r exact. (c.in_ok-files.files.items, c.in_ok-files.ensures.opened, exact)) c.run_streams.ensures.report)

pub returns-then-not-arguments-clause-prefix : goal.returns-then-not-arguments-clause-prefix
returns-then-not-arguments-clause-prefix g c =
    rw (c.if-not-arguments.true, ← c.as_slice.ensures.value)
    (IfErr-weaker c.run_streams.result _ _ (λ f prefix writing. (c.in_ok-files.files.items, c.in_ok-files.ensures.opened, of_each _ _ _ (prefix writing))) c.run_streams.ensures.prefix)

pub returns-in_err-write_json-clause-fault : goal.returns-in_err-write_json-clause-fault
returns-in_err-write_json-clause-fault g c =
    let p = err_from_is_err_and c.from_residual-in_err-write_json.result c.from_residual-in_err-write_json.ensures.1 in
    rw (p.1, ← c.as_slice.ensures.value)
    (inr (c.in_ok-files.files.items, c.in_ok-files.ensures.opened, of_any _ _ (λ inputs. run_fault inputs p.0 (subst (λ (f : Fault). (f ≡ faults.Memory) ⊎ (f ≡ faults.Write)) (sym p.2) c.in_err-write_json.ensures.fault))))

pub returns-in_err-write_json-clause-prefix : goal.returns-in_err-write_json-clause-prefix
returns-in_err-write_json-clause-prefix g c =
    let p = err_from_is_err_and c.from_residual-in_err-write_json.result c.from_residual-in_err-write_json.ensures.1 in
    rw (p.1) (λ writing.
    rw (c.if-not-arguments.false, ← c.as_slice.ensures.value)
    (c.in_ok-files.files.items, c.in_ok-files.ensures.opened, of_report true _ _ _ (whole_of c.in_ok-report.report) c.in_ok-report.ensures.report (c.in_err-write_json.ensures.prefix (sym p.2 ∙ writing))))
