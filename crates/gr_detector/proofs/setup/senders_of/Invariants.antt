use Rattle.gr_model.proofs.Common.{◌≡◌, ◌<◌, ℕ, [], get_or, length, take, All}
use Rattle.gr_model.specs.declared.limits.TheConstants.{MOST_GROUPS}
use Rattle.gr_route.specs.IntakeSeats.{Taker}
use Rattle.gr_threads.specs.Senders.{Sending}
use Rattle.gr_sequencer_thread.specs.Feeds.{AreSeated, intakes_of}
use Rattle.gr_detector.specs.Runs.{IsSenderOf}
use Rattle.gr_detector.proofs.setup.senders_of.Given as goal

abbrev pub invariant-loop-group : goal.invariant-loop-group
invariant-loop-group g l = record {
  intakes : intakes_of l.inlets.items ≡ intakes_of l.initial.inlets.items;
  queues : length l.inlets.items ≡ l.config.queues;
  each : All (λ (t : Taker). (t.popped ≡ []) × (length t.sizes ≡ MOST_GROUPS)) l.inlets.items;
  seated : AreSeated l.config (take l.group l.shape) l.inlets.items;
  count : length l.senders.items ≡ l.group;
  senders : (h : ℕ) (d : Sending) → h < l.group → IsSenderOf (record { config = l.config; sizes = l.shape; intakes = intakes_of l.initial.inlets.items }) h (get_or l.senders.items h d);
}
