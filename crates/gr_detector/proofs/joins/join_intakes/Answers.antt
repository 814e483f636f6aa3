use Rattle.gr_model.proofs.Common.{◌≡◌, ◌∙◌, ◌<◌, ◌%◌, ◌∷◌, [], refl, rules, arith, ap, sym, subst, get_or, length, mod-lt, All, into_iter_items, map-set_same, get_or-map, length-map, nil_from_length, All-rest}
use Rattle.gr_route.specs.IntakeSeats.{Seat, Taker, popped_of}
use Rattle.gr_sequencer_thread.specs.Feeds.{intakes_of}
use Rattle.gr_detector.specs.Settling.{ArePopped, IsHere, IsPopped, popped_at, pops_of}
use Rattle.gr_detector.proofs.SetupLemmas.{queue_at}
use Rattle.gr_detector.proofs.joins.join_intakes.Goals as goal

pub loop-receipt-preserved : goal.loop-receipt-preserved
loop-receipt-preserved g c =
    let inv = c.loop-receipt.invariant in
    let init = c.args.inlets.now.items in
    let inlets = c.loop-receipt.inlets.items in
    let r = c.in-Some.receipt in
    let q = c.from.result % c.len.result in
    let item = c.index_mut.result.now in
    let items : into_iter_items c.loop-receipt.receipt-iterator ≡ r ∷ into_iter_items c.next.new.self = search rules in
    let group : c.from.result ≡ r.group = search rules in
    let seat : c.into_seat.result ≡ r = c.into_seat.ensures.seat in
    let count : length inlets ≡ length init = grind (arith, inv.0, length-map inlets (λ (t : Taker). t.queue), length-map init (λ (t : Taker). t.queue)) in
    let some : 0 < length inlets = omega (arith, c.requires.some, count) in
    let len : c.len.result ≡ length inlets = search rules in
    let at : item ≡ get_or inlets (r.group % length inlets) item = grind (arith, c.index_mut.ensures.value, len, group) in
    let popped : popped_at (pops_of init) r.group ≡ popped_of item c.into_seat.result.group =
    let there = get_or-map (λ (t : Taker). t.popped) inlets (r.group % length inlets) item [] (mod-lt r.group some) in
    grind (arith, inv.1, length-map inlets (λ (t : Taker). t.popped), there, at, seat) in
    let pushed = ap (λ (s : Seat). s.pushed) seat in
    let back = c.join_back.ensures in
    let mine : IsPopped (pops_of init) r = record {
      prefix = (back.prefix.0, grind (arith, popped, pushed, back.prefix.1));
      whole = grind (arith, popped, pushed, back.whole);
    } in (
      map-set_same (λ (t : Taker). t.queue) inlets q c.join_back.new.self item (c.join_back.ensures.same.0 ∙ ap (λ (t : Taker). t.queue) c.index_mut.ensures.value) ∙ inv.0,
      map-set_same (λ (t : Taker). t.popped) inlets q c.join_back.new.self item (c.join_back.ensures.same.1 ∙ ap (λ (t : Taker). t.popped) c.index_mut.ensures.value) ∙ inv.1,
      All-rest (IsHere (intakes_of init)) r (into_iter_items c.next.new.self) (into_iter_items c.loop-receipt.receipt-iterator) items inv.2,
      λ rest. inv.3 (subst (ArePopped (pops_of init)) (sym items) (mine, rest)),
    )

pub loop-receipt-init : goal.loop-receipt-init
loop-receipt-init g c =
    let gives = c.into_iter-receipt-iterator.ensures.into_iter_gives.0 in
    (refl, refl, subst (All (IsHere (intakes_of c.args.inlets.now.items))) (sym gives) c.requires.here, λ whole. subst (ArePopped (pops_of c.args.inlets.now.items)) gives whole)

pub returns : goal.returns
returns g c =
    let left = c.loop-receipt.receipt-iterator in
    let over : into_iter_items left ≡ [] = nil_from_length (into_iter_items left) (sym left.rest.ok.0 ∙ c.in-None.ensures.steps.0) in
    c.loop-receipt.invariant.3 (subst (ArePopped (pops_of c.args.inlets.now.items)) (sym over) tt)

pub join_back-requires : goal.join_back-requires
join_back-requires g c =
    let inv = c.loop-receipt.invariant in
    let init = c.args.inlets.now.items in
    let inlets = c.loop-receipt.inlets.items in
    let item = c.index_mut.result.now in
    let r = c.in-Some.receipt in
    let here = subst (All (IsHere (intakes_of init))) c.in-Some.ensures.steps.0 inv.2 0 r (omega arith) in
    let count : length inlets ≡ length init = grind (arith, inv.0, length-map inlets (λ (t : Taker). t.queue), length-map init (λ (t : Taker). t.queue)) in
    let some : 0 < length inlets = omega (arith, c.requires.some, count) in
    let len : c.len.result ≡ length inlets = search rules in
    grind (arith, c.from.ensures, c.group.ensures, c.index_mut.ensures.value, len, c.into_seat.ensures.seat, here, mod-lt r.group some, length-map init (λ (t : Taker). t.queue), queue_at inlets (intakes_of init) (r.group % length inlets) item inv.0)
