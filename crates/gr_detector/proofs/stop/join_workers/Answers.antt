use Rattle.gr_model.proofs.Common.{◌≡◌, ◌∙◌, ◌++◌, ◌∷◌, [], List, append_assoc, append-nil, ap, arith, rules, sym, vec_len, map_push, nil_from_length, into_iter_items}
use Rattle.gr_detector.specs.Runs.{worker_queues}
use Rattle.gr_detector.proofs.stop.join_workers.Goals as goal

pub loop-worker-preserved : goal.loop-worker-preserved
loop-worker-preserved g c =
    let inv = c.loop-worker.invariant in
    let rest = into_iter_items c.next.new.self in
    let before = c.loop-worker.ends.items in (
      let pushed = map_push (λ w. w.queue) before c.join.result in
          let front = append_assoc (worker_queues before) (c.in-Some.worker.queue ∷ []) (worker_queues rest) in
          grind (arith, c.push_reserved.ensures.items, pushed, c.join.ensures, front, c.in-Some.ensures.steps.0, inv.0),
      omega (arith, inv.1, c.in-Some.ensures.steps.1, c.push_reserved.ensures.len),
      omega (arith, inv.2, c.push_reserved.ensures.capacity),
    )

pub loop-worker-init : goal.loop-worker-init
loop-worker-init g c =
    let len : vec_len c.args.ends ≡ 0 = search rules in
    (ap (λ (l : List _). worker_queues l ++ worker_queues (into_iter_items c.into_iter-worker-iterator.result)) c.requires.none ∙ ap worker_queues c.into_iter-worker-iterator.ensures.into_iter_gives.0, omega (arith, len, c.into_iter-worker-iterator.ensures.into_iter_gives.1), c.requires.room)

pub join-requires : goal.join-requires
join-requires g c κs lives = lives

pub returns-clause-queues : goal.returns-clause-queues
returns-clause-queues g c =
    let before = worker_queues c.loop-worker.ends.items in
    let over : into_iter_items c.loop-worker.worker-iterator ≡ [] = nil_from_length (into_iter_items c.loop-worker.worker-iterator) (sym c.loop-worker.worker-iterator.rest.ok.0 ∙ c.in-None.ensures.steps.0) in
    grind (arith, append-nil before, over, c.loop-worker.invariant.0)
