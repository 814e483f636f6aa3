use Rattle.gr_model.proofs.Common.{◌∙◌}
use Rattle.gr_route.specs.WorkSeats.{Giver}
use Rattle.gr_sequencer_thread.proofs.Changes.{as_many}
use Rattle.gr_sequencer_thread.proofs.feed.Feed.pass.Goals as goal

pub invariant_of-self : goal.invariant_of-self
invariant_of-self g c = record {
  config = c.self.invariant.config;
  queues = c.self.invariant.queues;
  worker_count = as_many (λ (u : Giver g.row.A.Denot). u.queue) c.pass.new.outlets.items c.self.inside.outlets.items c.pass.ensures.queues ∙ c.self.invariant.worker_count;
  backlogs = c.self.invariant.backlogs;
  seated = c.self.invariant.seated;
  unstopped = c.pass.ensures.«open»;
  good = λ f.
      let was = c.self.invariant.good f in
      record { same = was.same; sequence = was.sequence; popped = was.popped; passed = (was.passed.0, was.passed.1, c.pass.ensures.split was.passed.0 was.passed.2) };
}
