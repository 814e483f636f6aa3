use Rattle.gr_model.proofs.Common.{◌∙◌, ap, map-set_same}
use Rattle.gr_route.specs.IntakeSeats.{Taker}
use Rattle.gr_sequencer_thread.proofs.thread.pop_any.Goals as goal

pub returns-in-Some : goal.returns-in-Some
returns-in-Some g c =
    map-set_same (λ (t : Taker). t.queue) c.loop-queue.inlets.items _ c.pop.new.self c.index_mut.result.now (ap (λ (t : Taker). t.queue) c.in-Some.ensures.some ∙ ap (λ (t : Taker). t.queue) c.index_mut.ensures.value)
    ∙ c.loop-queue.invariant
