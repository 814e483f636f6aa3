use Rattle.gr_sequencer_thread.proofs.BeginLemmas.{fresh_feed}
use Rattle.gr_sequencer_thread.proofs.feed.Feed.new.Goals as goal

pub invariant_of-result : goal.invariant_of-result
invariant_of-result g c =
    fresh_feed c.args.config c.queues.ensures.config c.args.shape c.args.sequencer c.at_end.ensures.sequence c.requires.sequencer c.args.backlogs.items c.requires.backlogs c.args.inlets.items c.args.outlets.items c.requires.fresh c.args.on_way c.requires.on_way
