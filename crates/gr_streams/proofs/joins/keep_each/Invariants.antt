use Rattle.gr_model.proofs.Common.{◌≡◌, ◌≤◌, ◌+◌, ◌++◌, List, length, vec_len, vec_capacity, into_iter_items, into_iter_len}
use Rattle.gr_streams.specs.Sources.{AreEndsOf, AreLeft, Begun}
use Rattle.gr_streams.proofs.joins.keep_each.Given as goal

-- what the streams so far have left
abbrev pub invariant-loop-stream : goal.invariant-loop-stream
invariant-loop-stream g l = record {
  left : l.yielded ++ into_iter_items l.stream-iterator ≡ l.fn.ended.items;
  joined : (before begun : List Begun) → AreEndsOf begun l.yielded → AreLeft before l.initial.receipts.items l.fn.fault → AreLeft (before ++ begun) l.receipts.items l.first;
  count : vec_len l.receipts ≡ vec_len l.initial.receipts + length l.yielded;
  room : vec_len l.receipts + into_iter_len l.stream-iterator ≤ vec_capacity l.receipts;
  capacity : vec_capacity l.receipts ≡ vec_capacity l.initial.receipts;
}
