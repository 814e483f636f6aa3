use Rattle.gr_model.proofs.Common.{◌≡◌, ◌++◌, List, take}
use Rattle.gr_streams.specs.Types.{Event, MOST_RECORDS}
use Rattle.gr_streams.specs.Sending.{AreSent, IsSameSender, events_in}
use Rattle.gr_streams.proofs.forward.forward_all.Given as goal

-- the events among the parts so far were sent
abbrev pub invariant-loop-part : goal.invariant-loop-part
invariant-loop-part g l = record {
  same : IsSameSender l.fn.sender l.sender;
  sent : (events : List Event) → l.fn.sender.records ≡ MOST_RECORDS → AreSent l.fn.sender.items events l.fn.sender.sent l.fn.refused → AreSent l.sender.items (events ++ events_in (take l.part-index l.parts)) l.sender.sent l.stuck;
}
