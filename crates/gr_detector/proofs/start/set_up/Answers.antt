use Rattle.gr_model.proofs.Common.{◌≡◌, ◌∙◌, List, ap, sym, subst, arith, length, length-map}
use Rattle.atomic_table.specs.Seated.{TableId}
use Rattle.gr_route.specs.IntakeSeats.{Taker}
use Rattle.gr_sequencer_thread.specs.Ends.{Begin}
use Rattle.gr_sequencer_thread.specs.Feeds.{works_of}
use Rattle.gr_detector.specs.Runs.{AreSendersOf}
use Rattle.gr_detector.proofs.start.set_up.Goals as goal

pub new-begin-requires : goal.new-begin-requires
new-begin-requires g c =
    let was = c.in_ok-inlets.inlets.items in
    let now = c.senders_of.new.inlets.items in
    let count : length now ≡ c.args.config.queues =
    grind (arith, c.in_ok-senders.ensures.queues, length-map now (λ (t : Taker). t.queue), length-map was (λ (t : Taker). t.queue), c.in_ok-inlets.ensures.count) in
    record {
      queues = count;
      worker_count = c.in_ok-outlets.ensures.count.0;
      seated = c.in_ok-senders.ensures.seated;
      popped = λ q d lt. c.in_ok-senders.ensures.unpopped q d (omega (arith, lt, count));
      pushed = λ k d lt. c.in_ok-outlets.ensures.ungiven k d (omega (arith, lt, c.in_ok-outlets.ensures.count.0));
    }

pub returns-clause-senders : goal.returns-clause-senders
returns-clause-senders g c = rw c.new-begin.ensures
    (subst (λ (l : List TableId). AreSendersOf (record { config = c.args.config; sizes = c.args.shape; intakes = l }) c.in_ok-senders.senders.items) (sym c.in_ok-senders.ensures.queues) c.in_ok-senders.ensures.senders)

pub returns-clause-workers : goal.returns-clause-workers
returns-clause-workers g c = c.in_ok-outlets.ensures.queues ∙ sym (ap (λ (b : Begin g.row.A.Denot). works_of b.givers) c.new-begin.ensures)
