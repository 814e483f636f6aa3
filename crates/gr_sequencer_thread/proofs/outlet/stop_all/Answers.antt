use Rattle.gr_model.proofs.Common.{rules, ◌≡◌, ◌∙◌, ◌<◌, ◌+◌, arith, ap, length, get_or-set_other, length-set, IsTrue, map-set_same}
use Rattle.gr_clocks.proofs.RowLemmas.{each_set}
use Rattle.gr_route.specs.WorkRule.{is_stopped}
use Rattle.gr_route.specs.WorkSeats.{Giver}
use Rattle.gr_threads.specs.Given.{accesses_in}
use Rattle.gr_sequencer_thread.proofs.outlet.stop_all.Goals as goal

pub loop-worker-preserved : goal.loop-worker-preserved
loop-worker-preserved g c =
    let inv = c.loop-worker.invariant in
    let was = c.loop-worker.outlets.items in
    let at = c.loop-worker.worker in
    let t = c.index_mut.result.now in
    let now = c.stop.new.self in
    let len : length c.args.outlets.now.items ≡ c.args.outlets.now.len = search rules in
    let there : at < length was = omega (arith, c.loop-worker-test.true, c.len-worker-end.ensures, len, inv.count) in
    record {
      count = length-set was at now ∙ inv.count;
      queues = map-set_same (λ (u : Giver g.row.A.Denot). u.queue) was at now t (c.stop.ensures.same.0 ∙ ap (λ (u : Giver g.row.A.Denot). u.queue) c.index_mut.ensures.value) ∙ inv.queues;
      given = map-set_same (λ (u : Giver g.row.A.Denot). accesses_in u.pushed) was at now t (c.stop.ensures.same.1 ∙ ap (λ (u : Giver g.row.A.Denot). accesses_in u.pushed) c.index_mut.ensures.value) ∙ inv.given;
      above = λ k d from. get_or-set_other was at k now d (omega (arith, from)) ∙ inv.above k d (omega (arith, from));
      below = λ k d lt within. each_set (λ i (u : Giver g.row.A.Denot). i < at + 1 → IsTrue (is_stopped u.pushed)) d was at now there
          (λ _. c.stop.ensures.stopped) k (λ apart before. inv.below k d (omega (arith, before, apart)) (omega (arith, within, length-set was at now))) lt;
    }

pub stop-requires : goal.stop-requires
stop-requires g c =
    let inv = c.loop-worker.invariant in
    let at = c.loop-worker.worker in
    let t = c.index_mut.result.now in
    let len : length c.args.outlets.now.items ≡ c.args.outlets.now.len = search rules in
    let there : at < length c.args.outlets.now.items = omega (arith, c.loop-worker-test.true, c.len-worker-end.ensures, len) in
    ap (λ (u : Giver g.row.A.Denot). is_stopped u.pushed) (c.index_mut.ensures.value ∙ inv.above at t (omega arith)) ∙ c.requires at t there
