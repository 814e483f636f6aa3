use Rattle.gr_model.proofs.Common.{◌≡◌, ◌≤◌, ◌+◌, ◌++◌, All, ℕ, None, Some, get_or, length, map, vec_len, vec_capacity, into_iter_items, into_iter_len}
use Rattle.gr_detector.specs.Runs.{Run}
use Rattle.gr_route.specs.Batches.{all_of}
use Rattle.gr_threads.specs.Senders.{Sending}
use Rattle.gr_streams.specs.Sources.{AreBegun, AreOfRun, AreSenders, AreServed, IsHeaded, known_of}
use Rattle.gr_streams.proofs.joins.start_all.Given as goal

-- the streams that were begun, and what is left for the others
abbrev pub invariant-loop-share : goal.invariant-loop-share
invariant-loop-share g l = record {
  left : all_of l.yielded ++ all_of (into_iter_items l.share-iterator) ≡ all_of l.fn.shares.items;
  headed : All (λ s. IsHeaded s.header s.prefix.items) (all_of (into_iter_items l.share-iterator));
  served : AreServed (map (λ s. s.header) (all_of (into_iter_items l.share-iterator))) l.senders.items;
  fewer : (k : ℕ) (s : Sending) → get_or l.senders.items k None ≡ Some s → get_or l.fn.senders.items k None ≡ Some s;
  begun : AreBegun 0 (map (λ s. s.header) (all_of l.yielded)) (map (known_of g.T.Read.remaining) (all_of l.yielded)) (all_of l.threads.items);
  run : (run : Run) → AreSenders run l.fn.senders.items → AreOfRun run (all_of l.threads.items);
  place : l.place ≡ length (all_of l.yielded);
  room : vec_len l.threads + into_iter_len l.share-iterator ≤ vec_capacity l.threads;
}
