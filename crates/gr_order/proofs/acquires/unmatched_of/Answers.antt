use Rattle.gr_model.proofs.Common.{◌≡◌, ◌∙◌, ap, arith, length, option_and_then, refl, sym, eqb-false, eqb-true}
use Rattle.gr_model.specs.Prelude.{event_word}
use Rattle.gr_order.proofs.WaitLemmas.{first_is}
use Rattle.gr_order.proofs.Acquiring.{none_named, this_is}
use Rattle.gr_order.proofs.acquires.unmatched_of.Goals as goal

pub cause-cause-requires-clause-word : goal.cause-cause-requires-clause-word
cause-cause-requires-clause-word g c =
    let at = first_is c.requires.waiting c.args.item c.get-index.ensures.count c.waiting.ensures c.in_ok-taken.was in
    c.word_of.ensures ∙ sym (ap (option_and_then (event_word c.args.item.group)) at)

pub returns-then-is_empty : goal.returns-then-is_empty
returns-then-is_empty g c =
    let at = first_is c.requires.waiting c.args.item c.get-index.ensures.count c.waiting.ensures c.in_ok-taken.was in
    let none : length c.in_ok-taken.taken.names ≡ 0 = ap length (sym c.as_slice-names.ensures.names) ∙ eqb-true (length c.as_slice-names.result.now) 0 (sym c.is_empty.ensures ∙ c.if-is_empty.true) in
    none_named c.args.lanes.now.streams c.args.frontier.now c.requires.grounded c.args.item c.get-index.result c.get-index.ensures.count c.in_ok-taken.taken at none

pub returns : goal.returns
returns g c =
    let at = first_is c.requires.waiting c.args.item c.get-index.ensures.count c.waiting.ensures c.in_ok-taken.was in
    let count : length c.as_slice-names.result.now ≡ length c.in_ok-taken.taken.names = ap length c.as_slice-names.ensures.names in
    let some : length c.as_slice-names.result.now ≡ 0 → ⊥ = eqb-false (length c.as_slice-names.result.now) 0 (sym c.is_empty.ensures ∙ c.if-is_empty.false) in (
      refl,
      this_is c.args.lanes.now.streams c.args.frontier.now c.requires.grounded c.args.item c.get-index.result c.get-index.ensures.count c.in_ok-taken.taken at (omega (arith, some, count)) c.cause-cause.result c.cause-cause.ensures,
    )
