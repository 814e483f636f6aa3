use Rattle.gr_model.proofs.Common.{refl, IfErr-weaker, IfOk-weaker}
use Rattle.gr_report.specs.ReportText.{report_text}
use Rattle.gr_report.specs.Whole.{whole_of}
use Rattle.gr_command.proofs.AnswerLemmas.{both, of_input, partial_of, run_outcome}
use Rattle.gr_command.proofs.execute.perform.Goals as goal

pub returns-in-Replay-false : goal.returns-in-Replay-false
returns-in-Replay-false g c =
    let r = c.replay in
    rw (c.in-Replay-false.is, c.in-Replay-false.json-test)
    (run_outcome whole_of r.result _ c.reported-in-Replay-false.ensures
    (both _ _ r.result r.ensures.report (IfOk-weaker r.result _ _ (λ s text. (report_text (whole_of s), refl, text)) r.ensures.text)) r.ensures.fault r.ensures.untouched
    (IfErr-weaker r.result _ _ (λ f prefix writing. of_input _ _ _ (prefix writing)) r.ensures.prefix))

pub returns-in-Replay-true : goal.returns-in-Replay-true
returns-in-Replay-true g c =
    let r = c.replay_json in
    rw (c.in-Replay-true.is, c.in-Replay-true.json-test)
    (run_outcome whole_of r.result _ c.reported.ensures (both _ _ r.result r.ensures.report r.ensures.text) r.ensures.fault r.ensures.untouched r.ensures.prefix)

pub returns-in-Pack : goal.returns-in-Pack
returns-in-Pack g c =
    let r = c.pack in
    rw c.in-Pack.is (run_outcome (λ done. done) r.result _ c.rewritten.ensures r.ensures.whole r.ensures.fault r.ensures.untouched r.ensures.prefix)

pub returns-in-Dump-false : goal.returns-in-Dump-false
returns-in-Dump-false g c =
    let r = c.dump in
    rw (c.in-Dump-false.is, c.in-Dump-false.partial-test)
    (run_outcome (λ done. done) r.result _ c.rewritten-in-Dump-false.ensures r.ensures.whole r.ensures.fault r.ensures.untouched r.ensures.prefix)

pub returns-in-Dump-true : goal.returns-in-Dump-true
returns-in-Dump-true g c =
    let r = c.dump_partial in
    rw (c.in-Dump-true.is, c.in-Dump-true.partial-test)
    (partial_of _ _ _ r.result _ c.rewritten-in-Dump-true.ensures r.ensures.whole r.ensures.fault r.ensures.partial r.ensures.untouched r.ensures.prefix)

pub returns-in-Upgrade : goal.returns-in-Upgrade
returns-in-Upgrade g c =
    let r = c.upgrade in
    rw c.in-Upgrade.is (run_outcome (λ done. done) r.result _ c.rewritten-in-Upgrade.ensures r.ensures.whole r.ensures.fault r.ensures.untouched r.ensures.prefix)
