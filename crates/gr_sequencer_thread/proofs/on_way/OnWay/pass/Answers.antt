use Rattle.gr_model.proofs.Common.{rules, ◌≡◌, ◌∙◌, ◌<◌, ap, arith, length, length-set, map-set_same}
use Rattle.gr_route.specs.WorkSeats.{Giver}
use Rattle.gr_sequencer_thread.proofs.StepLemmas.{same_towards, still_open}
use Rattle.gr_sequencer_thread.proofs.on_way.OnWay.pass.Goals as goal

pub loop-worker-preserved : goal.loop-worker-preserved
loop-worker-preserved g c =
    let givers = c.loop-worker.outlets.items in
    let ways = c.loop-worker.self-inside.ways.items in
    let at = c.loop-worker.worker in
    let o = c.index_mut-in-loop-worker.result.now in
    let w = c.index_mut.result.now in
    let o' = c.pass_all-count.new.outlet in
    let w' = c.pass_all-count.new.self in
    let was = c.loop-worker.invariant in
    let len : length c.args.outlets.now.items ≡ c.args.outlets.now.len = search rules in
    let there : at < length givers = omega (arith, c.loop-worker-test.true, c.len-worker-end.ensures, len, was.outlets) in
    let within : at < length ways = omega (arith, there, was.outlets, was.count, c.requires.workers) in
    let mine = c.index_mut-in-loop-worker.ensures.value in
    record {
      towards = λ k. same_towards givers ways at there o o' mine within w w' c.index_mut.ensures.value c.pass_all-count.ensures.moved k ∙ was.towards k;
      count = length-set ways at w' ∙ was.count;
      outlets = length-set givers at o' ∙ was.outlets;
      queues = map-set_same (λ (u : Giver g.row.A.Denot). u.queue) givers at o' o (c.pass_all-count.ensures.queue ∙ ap (λ (u : Giver g.row.A.Denot). u.queue) mine) ∙ was.queues;
      unstopped = still_open givers ways at there o o' mine c.pass_all-count.ensures.«open» was.unstopped;
    }
