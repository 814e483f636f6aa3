use Rattle.gr_model.proofs.Common.{common_steps, elements, ◌∙◌, ap, arith, get_or, length, refl, sym, rules, true≢false}
use Rattle.gr_world.specs.Queues.{Work}
use Rattle.gr_world.specs.Worlds.{World}
use Rattle.gr_world.proofs.world.World.is_idle.Goals as goal

pub returns-then-not-is_idle : goal.returns-then-not-is_idle
returns-then-not-is_idle g c =
    let items = c.deref-worker-items.ensures.value ∙ ap (λ (v : World). v.workers) c.self.view_is in (
      λ yes. absurd (true≢false (sym yes)),
      λ idle. c.if-not-is_idle.ensures.1
          (ap (λ (x : Work). x.queue.items) (c.worker-item.is ∙ ap (λ l. get_or l c.loop-worker.worker-index c.worker-item.result) items)
          ∙ idle c.loop-worker.worker-index c.worker-item.result (omega (arith, c.loop-worker-test.true, ap length items))),
    )

pub loop-worker-preserved : goal.loop-worker-preserved
loop-worker-preserved g c =
    let here = c.is_idle.ensures.0 (search rules) in
    λ k d lt. grind (arith, elements, common_steps, here, c.worker-item.is, c.loop-worker.invariant k d)

pub returns : goal.returns
returns g c =
    let items = c.deref-worker-items.ensures.value ∙ ap (λ (v : World). v.workers) c.self.view_is in (
      λ yes k d lt. ap (λ l. (get_or l k d).queue.items) (sym items) ∙ c.loop-worker.invariant k d (omega (arith, lt, c.loop-worker-test.false, ap length items)),
      λ idle. refl,
    )
