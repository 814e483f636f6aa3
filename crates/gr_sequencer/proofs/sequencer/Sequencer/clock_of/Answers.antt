use Rattle.gr_sequencer.proofs.sequencer.Sequencer.clock_of.Goals as goal

pub item_clock-requires : goal.item_clock-requires
item_clock-requires g c = let follows = rw c.self.view_is at c.self.invariant in rw follows.clocks.shape c.requires

pub returns : goal.returns
returns g c = let follows = rw c.self.view_is at c.self.invariant in rw c.item_clock.ensures (follows.clocks.counts c.args.space c.args.item c.requires)
