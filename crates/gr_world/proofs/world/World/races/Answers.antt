use Rattle.gr_model.proofs.Common.{◌∙◌, ap, sym, take, take_all, take_more}
use Rattle.gr_world.specs.Worlds.{World}
use Rattle.gr_world.proofs.RestLemmas.{one_more_at_work}
use Rattle.gr_world.proofs.world.World.races.Goals as goal

pub loop-worker-preserved : goal.loop-worker-preserved
loop-worker-preserved g c =
    let workers = c.deref-worker-items.result.now in
    let i = c.loop-worker.worker-index in
    rw (take_more workers i c.worker-item.result c.loop-worker-test.true, ← c.worker-item.is)
    (one_more_at_work (take i workers) c.worker-item.result c.loop-worker.races.items c.in_ok-more.more.items c.in_ok-races.races.items c.loop-worker.invariant c.in_ok-more.ensures
    (simp (c.deref.ensures.value, c.deref-in-loop-worker.ensures.value) at c.in_ok-races.ensures))

pub returns : goal.returns
returns g c =
    let items = c.deref-worker-items.ensures.value ∙ ap (λ (v : World). v.workers) c.self.view_is in
    rw (sym items, ← take_all c.loop-worker.worker-index c.deref-worker-items.result.now c.loop-worker-test.false) c.loop-worker.invariant
