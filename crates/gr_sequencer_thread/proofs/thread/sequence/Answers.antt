use Rattle.gr_model.proofs.Common.{◌∙◌, ap}
use Rattle.gr_route.specs.IntakeSeats.{Taker}
use Rattle.gr_route.specs.WorkSeats.{Giver}
use Rattle.gr_sequencer_thread.specs.Ends.{Begin, begin_line}
use Rattle.gr_sequencer_thread.proofs.Changes.{as_many}
use Rattle.gr_sequencer_thread.proofs.thread.sequence.Goals as goal

pub invariant_of-result : goal.invariant_of-result
invariant_of-result g c = record {
  config = c.queues.ensures.config;
  queues = as_many (λ (t : Taker). t.queue) _ _ c.pop_all.ensures ∙ c.begin.invariant.queues;
  worker_count = as_many (λ (u : Giver g.row.A.Denot). u.queue) _ _ c.stop_all.ensures.queues ∙ c.begin.invariant.worker_count;
  stopped = c.stop_all.ensures.stopped;
  found = tt;
}

pub returns-in-Err : goal.returns-in-Err
returns-in-Err g c =
    (λ i. record { config = c.begin.inside.config; sizes = c.begin.inside.shape; intakes = c.pop_all.ensures i; works = c.stop_all.ensures.queues i })
    ∙ ap (λ (b : Begin g.row.A.Denot). begin_line b) c.begin.view_is
