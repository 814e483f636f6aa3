use Rattle.gr_model.proofs.Common.{◌≡◌, ◌∙◌, ◌++◌, ◌∷◌, [], List, suc, rules, arith, length, ap, sym, subst, append-nil, append_assoc, IfOk, length-map, nil_from_length, into_iter_items}
use Rattle.gr_model.specs.Prelude.{Lists, WordBelow}
use Rattle.gr_route.specs.WorkSeats.{Giver}
use Rattle.gr_sequencer_thread.specs.Feeds.{AreStopped, given_of}
use Rattle.gr_shadow.specs.Clashes.{ClockedAccess}
use Rattle.gr_threads.specs.Given.{accesses_in}
use Rattle.gr_detector.specs.Settling.{IsHitAmong}
use Rattle.gr_detector.proofs.HitLemmas.{none_among}
use Rattle.gr_detector.proofs.joins.settle_all.Goals as goal

pub loop-worker-init : goal.loop-worker-init
loop-worker-init g c =
    let none : c.new.result.items ≡ [] = search rules in
    let all : into_iter_items c.into_iter-left.result ≡ c.args.outlets.items = search rules in
    (search rules, search rules, ([], search rules, subst (Lists WordBelow (IsHitAmong [])) (sym none) none_among), subst (λ (gs : List (Giver g.row.A.Denot)). AreStopped gs) (sym all) c.requires.stopped)

pub loop-worker-preserved : goal.loop-worker-preserved
loop-worker-preserved g c =
    let old = c.loop-worker.invariant.2 in
    let o = c.in-Some-next.outlet in
    let rest = into_iter_items c.next-in-loop-worker.new.self in
    let items : into_iter_items c.loop-worker.left ≡ o ∷ rest = search rules in
    let seat : c.into_seat.result ≡ o = search rules in
    let x = accesses_in c.into_seat.result.pushed in
    let here : (old.0 ++ x ∷ []) ++ given_of rest ≡ old.0 ++ given_of (into_iter_items c.loop-worker.left) =
    grind (arith, append_assoc old.0 (x ∷ []) (given_of rest), seat, items) in
    (search rules, omega (arith, c.in-Some.ensures.steps.1, ap length c.in-Some.ensures.steps.0, c.loop-worker.invariant.1), (old.0 ++ x ∷ [], here ∙ old.1, c.merge_all-words.ensures old.0 x old.2 c.settle-more.ensures), λ k d within. subst (λ (gs : List (Giver g.row.A.Denot)). AreStopped gs) items c.loop-worker.invariant.3 (suc k) d (omega (arith, within)))

pub returns : goal.returns
returns g c =
    let old = c.loop-worker.invariant.2 in
    let over : into_iter_items c.loop-worker.worker-iterator ≡ [] = nil_from_length (into_iter_items c.loop-worker.worker-iterator) (sym c.loop-worker.invariant.1 ∙ c.in-None.ensures.steps.0) in
    let works = length-map (into_iter_items c.loop-worker.left) (λ (u : Giver g.row.A.Denot). u.queue) in
    let none : into_iter_items c.loop-worker.left ≡ [] = nil_from_length _ (grind (arith, over, c.loop-worker.invariant.0, works)) in
    let all : old.0 ≡ given_of c.args.outlets.items = grind (arith, append-nil old.0, none, old.1) in
    subst (λ (l : List (List ClockedAccess)). IfOk c.loop-worker.words (λ v. Lists WordBelow (IsHitAmong l) v.items)) all old.2

pub settle-more-requires : goal.settle-more-requires
settle-more-requires g c = grind (arith, c.in-Some.ensures.steps.0, c.loop-worker.invariant.0, c.in-Some-next.ensures.items, c.into_seat.ensures, c.join.ensures)

pub unreachable-requires : goal.unreachable-requires
unreachable-requires g c =
    let left = c.loop-worker.left in
    let none : into_iter_items left ≡ [] = nil_from_length (into_iter_items left) (sym left.rest.ok.0 ∙ c.in_default.ensures.cases.0) in
    grind (arith, none, c.in-Some.ensures.steps.0, c.loop-worker.invariant.0)
