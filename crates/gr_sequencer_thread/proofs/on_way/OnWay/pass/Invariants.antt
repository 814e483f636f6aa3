use Rattle.gr_model.proofs.Common.{◌≡◌, ℕ, length}
use Rattle.gr_sequencer_thread.specs.Feeds.{AreOpen, towards, works_of}
use Rattle.gr_sequencer_thread.proofs.on_way.OnWay.pass.Given as goal

abbrev pub invariant-loop-worker : goal.invariant-loop-worker
invariant-loop-worker g l = record {
  towards : (k : ℕ) → towards l.outlets.items l.self-inside.ways.items k ≡ towards l.fn.outlets.items l.initial.self-inside.ways.items k;
  count : length l.self-inside.ways.items ≡ length l.initial.self-inside.ways.items;
  outlets : length l.outlets.items ≡ length l.fn.outlets.items;
  queues : works_of l.outlets.items ≡ works_of l.fn.outlets.items;
  unstopped : AreOpen l.outlets.items;
}
