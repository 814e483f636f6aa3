use Rattle.gr_model.proofs.Common.{◌≡◌}
use Rattle.gr_sequencer_thread.specs.Ends.{feed_line}
use Rattle.gr_sequencer_thread.proofs.feed.Feed.drain.Given as goal

abbrev pub invariant-loop : goal.invariant-loop
invariant-loop g l = feed_line l.self ≡ feed_line l.initial.self
