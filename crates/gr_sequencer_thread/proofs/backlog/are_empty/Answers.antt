use Rattle.gr_model.proofs.Common.{◌≡◌, ◌∙◌, ap, arith, get_or, refl, sym, ⊎_elim, cases_eq, get_or_default}
use Rattle.gr_taking.specs.Sources.{ListedRecords}
use Rattle.gr_sequencer_thread.proofs.backlog.are_empty.Goals as goal

pub loop-group-preserved : goal.loop-group-preserved
loop-group-preserved g c k d lt = ⊎_elim
    (λ (same : k ≡ c.loop-group.group).
    ap (λ n. (get_or c.args.backlogs.now n d).records) same
    ∙ (ap (λ (b : ListedRecords). b.records) (get_or_default c.args.backlogs.now c.loop-group.group d c.index-backlogs-group.result c.loop-group-test.true ∙ sym c.index-backlogs-group.is) ∙ c.if-not-is_empty.ensures refl))
    (λ apart. c.loop-group.invariant k d (omega (arith, lt, apart)))
    (cases_eq k c.loop-group.group)
