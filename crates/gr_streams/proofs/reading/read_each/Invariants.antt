use Rattle.gr_model.proofs.Common.{◌≡◌, ◌≤◌, ◌+◌, ◌++◌, All, map, vec_len, vec_capacity, into_iter_items, into_iter_len}
use Rattle.gr_streams.specs.Sources.{AreEndsOf, IsUnread, begun_of}
use Rattle.gr_streams.proofs.reading.read_each.Given as goal

-- the streams so far were read
abbrev pub invariant-loop-stream : goal.invariant-loop-stream
invariant-loop-stream g l = record {
  left : l.yielded ++ into_iter_items l.stream-iterator ≡ l.fn.streams.items;
  unread : All IsUnread (into_iter_items l.stream-iterator);
  ends : AreEndsOf (map (begun_of g.T.Read.remaining) l.yielded) l.ended.items;
  room : vec_len l.ended + into_iter_len l.stream-iterator ≤ vec_capacity l.ended;
}
