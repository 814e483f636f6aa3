use Rattle.gr_model.proofs.Common.{◌≡◌, ◌≤◌, ◌+◌, ◌++◌, Some, map, vec_len, vec_capacity, into_iter_items, into_iter_len}
use Rattle.gr_streams.proofs.joins.at_places.Given as goal

-- the senders so far are at their places
abbrev pub invariant-loop-sender : goal.invariant-loop-sender
invariant-loop-sender g l = record {
  left : l.yielded ++ into_iter_items l.sender-iterator ≡ l.fn.senders.items;
  placed : l.places.items ≡ map (λ s. Some s) l.yielded;
  room : vec_len l.places + into_iter_len l.sender-iterator ≤ vec_capacity l.places;
}
