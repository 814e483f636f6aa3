use Rattle.gr_model.proofs.Common.{◌<◌, arith, get_or, inl, inr, length}
use Rattle.gr_taking.proofs.RoundLemmas.{HadTurn, round_goes_on, round_may}
use Rattle.gr_taking.proofs.rounds.take_round.Goals.{else-branch, then-branch}
use Rattle.gr_taking.proofs.rounds.take_round.Goals as goal

pub take_some-requires-clause-may : goal.take_some-requires-clause-may
take_some-requires-clause-may g c =
    let within : c.loop-place.place < length c.loop-place.sources = omega (arith, c.loop-place-test.true, c.loop-place.auto.sources) in
    round_may g.S.Source.header g.S.Source.group_of g.S.Source.coming _ _ _ _ _ c.index-sources-place.result _ within c.requires.may c.loop-place.invariant.sequence.prefixes.count c.loop-place.invariant.round

pub loop-place-preserved : goal.loop-place-preserved
loop-place-preserved g c =
    let within : c.loop-place.place < length c.loop-place.sources = omega (arith, c.loop-place-test.true, c.loop-place.auto.sources) in
    let told = c.in_ok-take_some.ensures in
    let handled = c.in_ok-handle_ready.ensures in
    let turn : HadTurn g.S.Source.header g.S.Source.group_of g.S.Source.coming c.loop-place.took c.if-branch.took (get_or c.loop-place.sources c.loop-place.place c.index-sources-place.result) c.take_some.new.source = elim c.if-branch.branch [
      | then-branch w ↦ inl (w.took-is, told.turn.some w.if-branch.true)
      | else-branch w ↦ inr (w.took-is, told.turn.none w.if-branch.false)
    ] in
    record {
      round = rw handled.taken (round_goes_on g.S.Source.header g.S.Source.group_of g.S.Source.coming _ _ _ _ _ c.index-sources-place.result _ within
          c.requires.may c.loop-place.invariant.sequence.prefixes.count c.loop-place.invariant.round c.if-branch.took c.take_some.new.sequencer.taken c.take_some.new.source told.turn.from told.header turn);
      sequence = handled.sequence;
      along = handled.along;
    }
