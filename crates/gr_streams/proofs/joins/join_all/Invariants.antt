use Rattle.gr_model.proofs.Common.{◌≡◌, ◌≤◌, ◌+◌, ◌++◌, length, vec_len, vec_capacity, into_iter_items}
use Rattle.gr_route.specs.Batches.{all_of}
use Rattle.gr_streams.specs.Sources.{AreLeft}
use Rattle.gr_streams.proofs.joins.join_all.Given as goal

-- what the threads so far have left
abbrev pub invariant-loop-thread : goal.invariant-loop-thread
invariant-loop-thread g l = record {
  left : all_of l.yielded ++ all_of (into_iter_items l.thread-iterator) ≡ all_of l.fn.threads.items;
  joined : AreLeft (all_of l.yielded) l.receipts.items l.fault;
  room : vec_len l.receipts + length (all_of (into_iter_items l.thread-iterator)) ≤ vec_capacity l.receipts;
}
