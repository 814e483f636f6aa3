use Rattle.gr_model.proofs.Common.{◌≡◌, ◌∙◌, ◌++◌, [], ◌∷◌, ap, true≢false, map, map-append, rules, sym}
use Rattle.std.proofs.lemmas.Map.Iter.{iter_end, rest_more, rest_so_far}
use Rattle.std.specs.Map.Iter.{deref_pair}
use Rattle.gr_shadow.specs.Lent.{lent_clocked}
use Rattle.gr_explain.specs.Seen.{SeenList}
use Rattle.gr_explain.proofs.SeenLemmas.{least_if_none, least_passed, least_with_first, none_more}
use Rattle.gr_explain.proofs.seen.Seen.with_pairs.Goals as goal

pub loop-item-preserved : goal.loop-item-preserved
loop-item-preserved g c =
    let class_is = ap (λ (s : SeenList). s.class) c.self.view_is in
    rw (map-append deref_pair c.loop-item.yielded ((c.in-Some.item, c.in-Some.indices) ∷ []))
    (none_more c.args.self.now (lent_clocked c.args.access.now) (map deref_pair c.loop-item.yielded) (c.in-Some.item.now, c.in-Some.indices.now) c.loop-item.invariant (rw (c.in_default.is, class_is) at c.first_of.ensures))

pub returns : goal.returns
returns g c =
    let all : map deref_pair c.loop-item.yielded ≡ c.args.self.now.items = search (rules, iter_end) in
    least_if_none c.args.self.now (lent_clocked c.args.access.now) c.args.least
    (λ e is. absurd (true≢false (sym is.clash ∙ c.loop-item.invariant e (rw all is.among))))

pub returns-then-is_exempt : goal.returns-then-is_exempt
returns-then-is_exempt g c = least_if_none c.args.self.now (lent_clocked c.args.access.now) c.args.least (c.is_exempt.ensures c.if-is_exempt.true)

pub returns-then-is_passed : goal.returns-then-is_passed
returns-then-is_passed g c =
    let before = map deref_pair c.loop-item.yielded in
    let items_are = ap (λ (s : SeenList). s.items) c.self.view_is in
    let so_far = rest_so_far deref_pair c.loop-item.yielded c.into_iter-item-iterator.result c.loop-item.item-iterator c.loop-item.yielded_by in
    let now = rest_more deref_pair c.loop-item.item-iterator c.next.new.self c.next.result (c.in-Some.item, c.in-Some.indices) c.in-Some.is c.next.ensures.steps in
    let left = sym (so_far ∙ ap (λ l. before ++ l) now) ∙ (c.into_iter-item-iterator.ensures.into_iter_gives ∙ (c.iter-item-items.ensures.rest ∙ items_are)) in
    least_passed c.args.self.now (lent_clocked c.args.access.now) before (c.in-Some.item.now, c.in-Some.indices.now) c.loop-item.invariant c.next.new.self left (rw items_are at c.iter-item-items.ensures.ordered)
    c.args.least (rw c.event_of-event.ensures at (c.is_passed.ensures c.if-is_passed.true))

pub returns-in-Some-first_of : goal.returns-in-Some-first_of
returns-in-Some-first_of g c =
    let before = map deref_pair c.loop-item.yielded in
    let items_are = ap (λ (s : SeenList). s.items) c.self.view_is in
    let class_is = ap (λ (s : SeenList). s.class) c.self.view_is in
    let so_far = rest_so_far deref_pair c.loop-item.yielded c.into_iter-item-iterator.result c.loop-item.item-iterator c.loop-item.yielded_by in
    let now = rest_more deref_pair c.loop-item.item-iterator c.next.new.self c.next.result (c.in-Some.item, c.in-Some.indices) c.in-Some.is c.next.ensures.steps in
    let left = sym (so_far ∙ ap (λ l. before ++ l) now) ∙ (c.into_iter-item-iterator.ensures.into_iter_gives ∙ (c.iter-item-items.ensures.rest ∙ items_are)) in
    least_with_first c.args.self.now (lent_clocked c.args.access.now) before (c.in-Some.item.now, c.in-Some.indices.now) c.loop-item.invariant c.next.new.self left (rw items_are at c.iter-item-items.ensures.ordered)
    c.in-Some-first_of.earlier (rw class_is at c.in-Some-first_of.ensures) c.args.least c.turned.result c.lesser.result (rw c.event_of-event.ensures at c.turned.ensures.same)
    (rw c.event_of-event.ensures at c.turned.ensures.below) c.lesser.ensures
