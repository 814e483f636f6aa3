use Rattle.gr_model.proofs.Common.{Err, ap, ◌∙◌}
use Rattle.gr_model.specs.Prelude.{memory_of}
use Rattle.gr_clocks.specs.Counts.{count_of}
use Rattle.gr_sequencer.proofs.EventSteps.{known_or_learned_room, known_or_learned_sees}
use Rattle.gr_sequencer.proofs.known.Known.clock_of.Goals as goal

pub returns-in-Ok : goal.returns-in-Ok
returns-in-Ok g c = known_or_learned_sees _ _ _ _ c.requires.next (memory_of c.args.word) (count_of c.in_ok-clock.clock.counts) c.in_ok-clock.ensures (count_of c.tick.new.self.counts) c.in-Ok.ensures.ok.counts

pub unreachable-requires : goal.unreachable-requires
unreachable-requires g c =
    known_or_learned_room _ _ _ _ c.requires.next (memory_of c.args.word) (count_of c.in_ok-clock.clock.counts) c.in_ok-clock.ensures (c.tick.ensures.spent.0 (c.in-Err.is ∙ ap Err c.in-Spent.is))
