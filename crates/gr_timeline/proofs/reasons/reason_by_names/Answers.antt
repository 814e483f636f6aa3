use Rattle.gr_model.proofs.Common.{◌≡◌, ◌∙◌, Contains, List, ap, subst, sym, All-contains}
use Rattle.gr_model.specs.declared.event.Name.{Name}
use Rattle.gr_model.specs.Prelude.{names_at, names_of}
use Rattle.gr_timeline.specs.Waiting.{HasGroundedRelease}
use Rattle.gr_timeline.proofs.reasons.reason_by_names.Goals as goal

pub returns-in-None : goal.returns-in-None
returns-in-None g c n named =
    let s = c.args.judged.now in
    let names : c.as_slice-names.result.now ≡ names_at s c.args.event = c.as_slice-names.ensures.names ∙ sym (ap names_of (sym c.record_of.ensures ∙ c.in-Some.is)) in
    let there = subst (λ (l : List Name). Contains l n) (sym names) named in
    All-contains (HasGroundedRelease s c.args.event) c.as_slice-names.result.now n c.in-None.ensures there
