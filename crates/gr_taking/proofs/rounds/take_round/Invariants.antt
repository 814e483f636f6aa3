use Rattle.gr_order.specs.Sequences.{IsSequence}
use Rattle.gr_taking.specs.Along.{IsAlong}
use Rattle.gr_taking.proofs.RoundLemmas.{IsRound}
use Rattle.gr_taking.proofs.rounds.take_round.Given as goal

abbrev pub invariant-loop-place : goal.invariant-loop-place
invariant-loop-place g l = record {
  round : IsRound g.S.Source.header g.S.Source.group_of g.S.Source.coming l.fn.sequencer.taken l.fn.sources l.place l.took l.sequencer.taken l.sources;
  sequence : IsSequence l.sequencer;
  along : IsAlong (g.K.Keeper.stands l.keeper) l.sequencer l.kept;
}
