use Rattle.gr_model.proofs.Common.{ℕ, arith, ◌∙◌, ap, subst, sym, is_some, on_ok_weaker}
use Rattle.std.specs.Option.{option_copied_mut}
use Rattle.gr_shadow.specs.Lent.{lent_clocked}
use Rattle.gr_explain.specs.TagPairs.{IsTagAdded}
use Rattle.gr_explain.proofs.WordPairLemmas.{no_word_added, word_added}
use Rattle.gr_explain.proofs.word_pairs.add_access.Goals as goal

pub returns-in-Some : goal.returns-in-Some
returns-in-Some g c =
    let y = lent_clocked c.args.access.now in
    let tag_of = g.T.Tags.tag_of c.args.tags.now in
    let before = c.in-Some.found.now in
    let after = c.add.new.self in
    let found = sym c.get_mut.ensures.value ∙ ap option_copied_mut c.in-Some.is in
    let tag_is = c.tag.ensures ∙ ap tag_of c.event_of.ensures in
    on_ok_weaker c.add.result (λ added. λ words accesses stand.
    word_added tag_of words accesses y c.args.pairs.now.entries (c.get_mut.follows.lender after).entries before after found
    (λ w. ((c.get_mut.follows.holds after).3 (ap is_some found)).0 w) (subst (λ (t : ℕ). IsTagAdded y t before after) tag_is added) stand) c.add.ensures

pub returns-in-None : goal.returns-in-None
returns-in-None g c words accesses stand = grind (arith, no_word_added (g.T.Tags.tag_of c.args.tags.now) words accesses (lent_clocked c.args.access.now) c.args.pairs.now.entries c.get_mut.follows.lender-at-none.entries)
