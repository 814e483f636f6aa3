use Rattle.gr_model.proofs.Common.{◌≡◌, ◌∙◌, ap, option_and_then, refl, sym}
use Rattle.gr_model.specs.Prelude.{event_word, is_release, word_at}
use Rattle.gr_lanes.proofs.IndexLemmas.{record_is}
use Rattle.gr_order.proofs.ReadyLemmas.{released_if, released_only}
use Rattle.gr_order.proofs.ready.is_released.Goals as goal

pub returns-then-covers : goal.returns-then-covers
returns-then-covers g c =
    let s = c.args.lanes.now.streams in
    let counts = c.args.frontier.now in
    let n = c.args.name in
    let word : c.release_word.result ≡ word_at s (record { at = n.at; index = c.in-Some.index }) =
    c.release_word.ensures ∙ ap (option_and_then (event_word n.at.group)) (record_is s is_release n.at n.release c.in-Some.index (sym c.in-Some.ensures)) in (
      λ same. released_if s counts c.args.group c.args.acquire.now c.args.name c.in-Some.index (sym c.in-Some.ensures) (c.if-covers.ensures.0 refl) (sym c.word_of.ensures ∙ (sym (c.is_same.ensures.0 same) ∙ word)),
      λ released. c.is_same.ensures.1 (word ∙ (sym (released_only s counts c.args.group c.args.acquire.now c.args.name c.in-Some.index (sym c.in-Some.ensures) released) ∙ sym c.word_of.ensures)),
    )
