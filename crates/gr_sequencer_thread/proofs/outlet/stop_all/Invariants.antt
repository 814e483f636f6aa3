use Rattle.gr_model.proofs.Common.{◌≡◌, ◌≤◌, ◌<◌, ℕ, get_or, length, IsTrue}
use Rattle.gr_route.specs.WorkRule.{is_stopped}
use Rattle.gr_route.specs.WorkSeats.{Giver}
use Rattle.gr_sequencer_thread.specs.Feeds.{given_of, works_of}
use Rattle.gr_sequencer_thread.proofs.outlet.stop_all.Given as goal

abbrev pub invariant-loop-worker : goal.invariant-loop-worker
invariant-loop-worker g l = record {
  count : length l.outlets.items ≡ length l.fn.outlets.items;
  queues : works_of l.outlets.items ≡ works_of l.fn.outlets.items;
  given : given_of l.outlets.items ≡ given_of l.fn.outlets.items;
  above : (k : ℕ) (d : Giver g.row.A.Denot) → l.worker ≤ k → get_or l.outlets.items k d ≡ get_or l.fn.outlets.items k d;
  below : (k : ℕ) (d : Giver g.row.A.Denot) → k < l.worker → k < length l.outlets.items → IsTrue (is_stopped (get_or l.outlets.items k d).pushed);
}
