use Rattle.gr_model.proofs.Common.{◌≡◌}
use Rattle.gr_sequencer_thread.specs.Ends.{feed_line}
use Rattle.gr_sequencer_thread.proofs.feed.Feed.drain_all.Given as goal

abbrev pub invariant-loop-queue : goal.invariant-loop-queue
invariant-loop-queue g l = feed_line l.self ≡ feed_line l.initial.self
