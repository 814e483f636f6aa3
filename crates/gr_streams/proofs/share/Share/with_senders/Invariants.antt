use Rattle.gr_model.proofs.Common.{◌≡◌, ◌≤◌, ◌+◌, ◌++◌, All, List, ℕ, None, Some, get_or, length, map, vec_len, vec_capacity, into_iter_items, into_iter_len}
use Rattle.gr_detector.specs.Runs.{Run}
use Rattle.gr_record.specs.declared.header.Header.{Header}
use Rattle.gr_threads.specs.Senders.{Sending}
use Rattle.gr_streams.specs.Sources.{AreBegun, AreOfRun, AreSenders, AreServed, IsHeaded, IsUnread, begun_of, known_of}
use Rattle.gr_streams.proofs.share.Share.with_senders.Given as goal

-- the streams that have their senders, and what is left for the others
abbrev pub invariant-loop-source : goal.invariant-loop-source
invariant-loop-source g l = record {
  left : l.yielded ++ into_iter_items l.source-iterator ≡ l.fn.self;
  headed : All (λ s. IsHeaded s.header s.prefix.items) (into_iter_items l.source-iterator);
  served : (more : List Header) → AreServed (map (λ s. s.header) l.fn.self ++ more) l.initial.senders.items → AreServed (map (λ s. s.header) (into_iter_items l.source-iterator) ++ more) l.senders.items;
  fewer : (k : ℕ) (s : Sending) → get_or l.senders.items k None ≡ Some s → get_or l.initial.senders.items k None ≡ Some s;
  unread : All IsUnread l.unread.items;
  begun : AreBegun l.fn.place (map (λ s. s.header) l.yielded) (map (known_of g.T.Read.remaining) l.yielded) (map (begun_of g.T.Read.remaining) l.unread.items);
  run : (run : Run) → AreSenders run l.initial.senders.items → AreOfRun run (map (begun_of g.T.Read.remaining) l.unread.items);
  place : l.place ≡ l.fn.place + length l.yielded;
  count : vec_len l.unread ≡ length l.yielded;
  room : vec_len l.unread + into_iter_len l.source-iterator ≤ vec_capacity l.unread;
}
