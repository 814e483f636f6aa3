use Rattle.gr_model.proofs.Common.{◌≡◌, ◌∙◌, ◌++◌, ◌∷◌, [], List, append_assoc, append-nil, ap, arith, length, rules, sym, take, take_all, vec_len, take-append-le, nil_from_length, into_iter_items}
use Rattle.gr_detector.proofs.start.start_all.Goals as goal

pub loop-worker-preserved : goal.loop-worker-preserved
loop-worker-preserved g c =
    let inv = c.loop-worker.invariant in
    let rest = into_iter_items c.next.new.self in
    let before = c.loop-worker.threads.items in (
      grind (arith, c.push_reserved.ensures.items, c.in-Some-start_one.ensures, append_assoc before (c.in-Some.worker ∷ []) rest, c.in-Some.ensures.steps.0, inv.0),
      omega (arith, inv.1, c.in-Some.ensures.steps.1, c.push_reserved.ensures.len),
      omega (arith, inv.2, c.push_reserved.ensures.capacity),
    )

pub loop-worker-init : goal.loop-worker-init
loop-worker-init g c =
    let len : vec_len c.args.threads ≡ 0 = search rules in
    (ap (λ (l : List _). l ++ into_iter_items c.into_iter-worker-iterator.result) c.requires.none ∙ c.into_iter-worker-iterator.ensures.into_iter_gives.0, omega (arith, len, c.into_iter-worker-iterator.ensures.into_iter_gives.1), c.requires.room)

pub start_one-requires : goal.start_one-requires
start_one-requires g c =
    let is = c.type_bounds in (is.static-R, (is.static-A, (is.static-W, (is.send-R, (is.send-A, (is.send-W, (is.sync-A, (is.sync-W, is.frees-A-Allocator))))))))

pub returns-in-None-start_one-clause-first : goal.returns-in-None-start_one-clause-first
returns-in-None-start_one-clause-first g c =
    let threads = c.loop-worker.threads.items in
    let n = vec_len c.loop-worker.threads in
    let len : length threads ≡ n = search rules in
    sym (take_all n threads (omega (arith, len))) ∙ (sym (take-append-le n threads (into_iter_items c.loop-worker.worker-iterator) (omega (arith, len))) ∙ ap (take n) c.loop-worker.invariant.0)

pub returns-clause-all : goal.returns-clause-all
returns-clause-all g c =
    let threads = c.loop-worker.threads.items in
    let over : into_iter_items c.loop-worker.worker-iterator ≡ [] = nil_from_length (into_iter_items c.loop-worker.worker-iterator) (sym c.loop-worker.worker-iterator.rest.ok.0 ∙ c.in-None.ensures.steps.0) in
    grind (arith, append-nil threads, over, c.loop-worker.invariant.0)
