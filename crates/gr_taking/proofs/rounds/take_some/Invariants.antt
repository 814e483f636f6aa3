use Rattle.gr_model.proofs.Common.{◌≡◌, ◌<◌, IsFalse, IsTrue, length}
use Rattle.gr_order.specs.Sequences.{IsSequence}
use Rattle.gr_taking.specs.Along.{IsAlong}
use Rattle.gr_taking.specs.Sources.{AreTakenFrom}
use Rattle.gr_taking.proofs.rounds.take_some.Given as goal

abbrev pub invariant-loop : goal.invariant-loop
invariant-loop g l = record {
  from : AreTakenFrom l.fn.sequencer.taken (g.S.Source.group_of (g.S.Source.header l.fn.source)) (g.S.Source.coming l.fn.source) l.sequencer.taken (g.S.Source.coming l.source);
  header : g.S.Source.header l.source ≡ g.S.Source.header l.fn.source;
  some : IsTrue l.took → length (g.S.Source.coming l.source) < length (g.S.Source.coming l.fn.source);
  none : IsFalse l.took → l.counter ≡ 0;
  sequence : IsSequence l.sequencer;
  along : IsAlong (g.K.Keeper.stands l.keeper) l.sequencer l.kept;
}
