use Rattle.gr_model.proofs.Common.{◌≡◌, Some, ap, arith, refl, sym, ◌∙◌}
use Rattle.gr_model.specs.declared.event.EventId.{EventId}
use Rattle.gr_model.specs.Prelude.{release_place, event_at}
use Rattle.gr_sequencer.proofs.Teaching.{given_releases, release_handled, source_of}
use Rattle.gr_sequencer.proofs.sources.source.Goals as goal

pub returns-then-inclusive : goal.returns-then-inclusive
returns-then-inclusive g c =
    let s = c.args.order.now.taken in
    let order = c.args.order.now.handled in
    let e = c.args.event in
    let n = c.args.name in
    let r : EventId = record { at = n.at; index = c.in_ok-index.index } in
    let x = c.args.taken.now in
    let given = c.in_ok-given.given in
    let place = ap (λ t. release_place t n) (sym c.lanes.ensures.taken) ∙ sym c.release_at.ensures ∙ c.in_ok-index.was in
    let there : event_at s r ≡ Some given = sym c.release_event.ensures ∙ c.in_ok-given.was in
    let handled = release_handled s order e r x given n c.requires.there c.requires.named refl place there c.requires.ready in
    let releases = given_releases s order e r x given n c.requires.there c.requires.named refl place there c.requires.ready in
    let kept = c.requires.snapshots r given handled there releases in
    let scopes = sym c.inclusive.ensures ∙ c.if-inclusive.true in
    grind (arith, c.get.ensures.value, source_of s order e r x given n c.requires.there c.requires.named refl place there c.requires.ready scopes)
