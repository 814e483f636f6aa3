use Rattle.gr_model.proofs.Common.{◌≡◌, length, sum_by}
use Rattle.gr_order.specs.Sequences.{IsSequence}
use Rattle.gr_taking.specs.Along.{IsAlong}
use Rattle.gr_taking.specs.Sources.{come_from}
use Rattle.gr_taking.proofs.rounds.take_until.Given as goal

abbrev pub invariant-loop-sequencer : goal.invariant-loop-sequencer
invariant-loop-sequencer g l = record {
  same : come_from g.S.Source.header g.S.Source.group_of g.S.Source.coming l.sequencer.taken l.sources ≡ come_from g.S.Source.header g.S.Source.group_of g.S.Source.coming l.fn.sequencer.taken l.fn.sources;
  sizes : l.sequencer.taken.sizes ≡ l.fn.sequencer.taken.sizes;
  sequence : IsSequence l.sequencer;
  along : IsAlong (g.K.Keeper.stands l.keeper) l.sequencer l.kept;
}

abbrev pub decreases-loop-sequencer : goal.decreases-loop-sequencer
decreases-loop-sequencer g l = sum_by (λ s. length (g.S.Source.coming s)) l.sources
